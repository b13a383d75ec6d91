-- Numbers in bytes, little-endian, in any width.
use Rattle.std.specs.Prelude.{ℕ, zero, suc, ◌+◌, ◌*◌, ◌/◌, ◌%◌, cond, List, [], ◌∷◌, ◌++◌, leb, length, get_or}

-- the number in the w bytes from place i
unfoldable pub number_at : ℕ → List ℕ → ℕ → ℕ
number_at zero b i = 0
number_at (suc w) b i = get_or b i 0 + 256 * number_at w b (i + 1)

-- a number as w bytes
unfoldable pub bytes_of : ℕ → ℕ → List ℕ
bytes_of zero n = []
bytes_of (suc w) n = n % 256 ∷ bytes_of w (n / 256)

-- the n numbers of w bytes each from place i
unfoldable pub numbers_at : ℕ → List ℕ → ℕ → ℕ → List ℕ
numbers_at w b i zero = []
numbers_at w b i (suc n) = number_at w b i ∷ numbers_at w b (i + w) n

-- number i of those of four bytes each from place `from`, and 0 where the bytes end before it does
unfoldable pub nth_within : ℕ → List ℕ → ℕ → ℕ
nth_within from b i = cond (leb (from + 4 + 4 * i) (length b)) (number_at 4 b (from + 4 * i)) 0

-- numbers as w bytes each
unfoldable pub bytes_of_all : ℕ → List ℕ → List ℕ
bytes_of_all w [] = []
bytes_of_all w (n ∷ ns) = bytes_of w n ++ bytes_of_all w ns
