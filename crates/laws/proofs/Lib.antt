-- What tests tell (`Tests`), products (`ProductLaws`), the numbers of a list and its places (`PlacesLaws`), how often they occur
-- (`CountLaws`), and values written to a list (`SetsLaws`).
pub mod Tests
pub mod ProductLaws
pub mod PlacesLaws
pub mod CountLaws
pub mod SetsLaws
