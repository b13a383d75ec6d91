-- The samples hold.
pub mod LargeTotals
pub mod Hold
pub mod PanelHold
pub mod RecordingsHold
