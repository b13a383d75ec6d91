-- Cells: what is encoded is decoded again, and writing and reading one, test by test. Each part of a cell is found behind those before
-- it.
use Prim.Native.Nat.{ℕ, ◌+◌, ◌*◌, ◌%◌, ◌^◌, ◌<◌, ◌≤◌}
use native.Mathlib.Nat.{zero-add}
use native.Mathlib.Omega.{arith}
use mathlib.Core.Path.{◌≡◌, ap, sym, ◌∙◌}
use mathlib.Core.Bool.{◌&&◌}
use mathlib.Core.List.{List, [], ◌++◌, append-nil, Memᴰ}
use lib.Dec.{leb, eqb}
use lib.ListN.{length, get_or, take, drop, length-append}
use lib.Seq.{sets, get_or-append-add, take_at, drop_at}
use borrow.Author.Tests.{le-leb, lt-leb, leb-true, eq-eqb}
use Rattle.refusal.specs.Outcome.{answer, refused}
use Rattle.refusal.specs.Effect.{effect}
use Rattle.laws.proofs.Tests.{and-true}
use Rattle.refusal.proofs.OutcomeLaws.{check_answer, with_answer_answer, with_answer_refused}
use Rattle.page.specs.Bytes.{bytes_of, numbers_at, bytes_of_all}
use Rattle.laws.proofs.SetsLaws.{sets-append}
use Rattle.page.proofs.BytesLaws.{number_at_append-left, numbers_at_same, number_at_bytes_of, numbers_at-bytes_of_all, length_bytes_of, length-bytes_of_all}
use Rattle.overflow.specs.Totals.{max_size}
use Rattle.overflow.specs.Cells.{Cell, cell_with, hash_size, cell_header, cell_bytes, encode_cell, encode_cell_into, cell_size, cell_count, cell_of, decode_cell, CellCounts, cell_counts_of, cell_counts, decode_cell_into}
use Rattle.overflow.proofs.TotalsLaws.{max_size_lem}

-- ---- out

pub length-cell_bytes : (c : Cell) → length c.hash ≡ hash_size → length (cell_bytes c) ≡ cell_header + 4 * length c.numbers
unfolding cell_bytes
length-cell_bytes c hash =
    omega (arith, length-append (bytes_of 8 c.size) (c.hash ++ bytes_of_all 4 c.numbers), length-append c.hash (bytes_of_all 4 c.numbers), length_bytes_of 8 c.size, length-bytes_of_all 4 c.numbers)

module _ (s size : ℕ) (hash numbers buffer : List ℕ) where
  -- a size that no value has
  pub cell_large : max_size s < size → effect (refused 10 []) buffer ≡ encode_cell_into s (cell_with size hash numbers) buffer
  unfolding encode_cell_into encode_cell
  cell_large h = rw (lt-leb size (max_size s) h)

  module _ (few : size ≤ max_size s) where
    -- a buffer shorter than the cell
    pub cell_short : length buffer < cell_header + 4 * length numbers → effect (refused 13 []) buffer ≡ encode_cell_into s (cell_with size hash numbers) buffer
    unfolding encode_cell_into encode_cell
    cell_short h = rw (le-leb size (max_size s) few, lt-leb (cell_header + 4 * length numbers) (length buffer) h)

    -- the cell, written part by part
    pub cell_written : length hash ≡ hash_size → cell_header + 4 * length numbers ≤ length buffer → {a b d : List ℕ}
        → a ≡ sets buffer 0 (bytes_of 8 size)
        → b ≡ sets a 8 hash
        → d ≡ sets b cell_header (bytes_of_all 4 numbers)
        → effect (answer (cell_header + 4 * length numbers)) d ≡ encode_cell_into s (cell_with size hash numbers) buffer
    unfolding encode_cell_into encode_cell cell_bytes bytes_of
    cell_written long h {a} {b} {d} p q r =
        let c = cell_with size hash numbers in
        let A = bytes_of 8 size in
        let N = bytes_of_all 4 numbers in
        let parts = sets-append buffer 0 A (hash ++ N) ∙ sets-append (sets buffer 0 A) 8 hash N ∙ ap (λ (k : ℕ). sets (sets (sets buffer 0 A) 8 hash) (8 + k) N) long in
        let written : d ≡ sets buffer 0 (cell_bytes c) = r ∙ rw (q, p) (sym parts) in
        rw (written, le-leb size (max_size s) few, le-leb (cell_header + 4 * length numbers) (length buffer) h, length-cell_bytes c long)

-- ---- in

-- what is known of bytes that gave these counts
pub record Decoding (s : ℕ) (b : List ℕ) (k : CellCounts) : Type 0 where
  pub long : cell_header + 4 ≤ length b
  pub read : decode_cell s b ≡ answer (cell_of b)
  pub counts : cell_counts_of (cell_of b) ≡ k
  pub few : (cell_of b).size ≤ max_size s

module _ (s : ℕ) (b : List ℕ) where
  -- bytes that are read are the cell
  pub decoded : {c : Cell} → decode_cell s b ≡ answer c → Decoding s b (cell_counts_of c) × (c ≡ cell_of b)
  unfolding decode_cell cell_of
  decoded {c} e =
      let t = check_answer (leb (cell_header + 4) (length b) && eqb (length b % 4) 0) 12 [] _ e in
      let u = check_answer (leb (cell_size b) (max_size s)) 10 [] _ t.1 in
      let whole : cell_of b ≡ c = cc in (
        record {
          long = leb-true (cell_header + 4) (length b) (and-true (leb (cell_header + 4) (length b)) (eqb (length b % 4) 0) t.0).0;
          read = e ∙ ap answer (sym whole);
          counts = ap cell_counts_of whole;
          few = leb-true (cell_size b) (max_size s) u.0;
        },
        sym whole,
      )

  pub decoding : {k : CellCounts} → answer k ≡ cell_counts s b → Decoding s b k
  unfolding cell_counts
  decoding {k} e =
      let w = with_answer_answer (λ c. answer (cell_counts_of c)) (decode_cell s b) (sym e) in
      let same : cell_counts_of w.0 ≡ k = cc in
      let d = (decoded w.1).0 in
      record { long = d.long; read = d.read; counts = d.counts ∙ same; few = d.few }

  pub not_decoded : {n : ℕ} {vs : List ℕ} → refused n vs ≡ cell_counts s b → decode_cell s b ≡ refused n vs
  unfolding cell_counts
  not_decoded e = with_answer_refused cell_counts_of (decode_cell s b) (sym e)

  module _ (hash : List ℕ) where
    -- a refusal leaves the hash
    pub into_refused : {n : ℕ} {vs : List ℕ} → refused n vs ≡ cell_counts s b → effect (refused n vs) hash ≡ decode_cell_into s b hash
    unfolding decode_cell_into
    into_refused e = rw (not_decoded e)

    -- a cell's hash is put there
    pub into_decoded : {k : CellCounts} → answer k ≡ cell_counts s b → {h : List ℕ} → h ≡ sets hash 0 (take hash_size (drop 8 b)) → effect (answer k) h ≡ decode_cell_into s b hash
    unfolding decode_cell_into cell_of
    into_decoded e f =
        let d = decoding e in
        rw (d.read, ← d.counts, f)

-- ---- what is encoded is decoded again

module _ (s : ℕ) (c : Cell) (few : c.size ≤ max_size s) (hash : length c.hash ≡ hash_size) where
  size_encoded : cell_size (cell_bytes c) ≡ c.size
  unfolding cell_size cell_bytes
  size_encoded =
      number_at_append-left 8 (bytes_of 8 c.size) (c.hash ++ bytes_of_all 4 c.numbers) 0 (omega (arith, length_bytes_of 8 c.size))
      ∙ number_at_bytes_of 8 c.size (omega (arith, max_size_lem s))

  hash_encoded : take hash_size (drop 8 (cell_bytes c)) ≡ c.hash
  unfolding cell_bytes
  hash_encoded =
      ap (take hash_size) (drop_at (bytes_of 8 c.size) (c.hash ++ bytes_of_all 4 c.numbers) 8 (length_bytes_of 8 c.size))
      ∙ take_at c.hash (bytes_of_all 4 c.numbers) hash_size hash

  pub count_encoded : cell_count (cell_bytes c) ≡ length c.numbers
  unfolding cell_count
  count_encoded = rw (length-cell_bytes c hash) (omega arith)

  module _ (fit : (n : ℕ) → Memᴰ n c.numbers → n < 256 ^ 4) where
    numbers_encoded : numbers_at 4 (cell_bytes c) cell_header (cell_count (cell_bytes c)) ≡ c.numbers
    unfolding cell_bytes
    numbers_encoded =
        ap (numbers_at 4 (cell_bytes c) cell_header) count_encoded
        ∙ numbers_at_same 4 (cell_bytes c) (bytes_of_all 4 c.numbers ++ []) cell_header 0 (length c.numbers) behind
        ∙ numbers_at-bytes_of_all 4 c.numbers [] fit
      where
        behind : (k : ℕ) → k < 4 * length c.numbers → get_or (cell_bytes c) (cell_header + k) 0 ≡ get_or (bytes_of_all 4 c.numbers ++ []) (0 + k) 0
        behind k h =
            let A = bytes_of 8 c.size in
            let N = bytes_of_all 4 c.numbers in
            let e : cell_header + k ≡ length A + (length c.hash + k) = omega (arith, length_bytes_of 8 c.size) in
            rw (e, zero-add k, append-nil N) (get_or-append-add A (c.hash ++ N) (length c.hash + k) 0 ∙ get_or-append-add c.hash N k 0)

    cell_encoded : cell_of (cell_bytes c) ≡ c
    unfolding cell_of
    cell_encoded = λ i. record { size = size_encoded i; hash = hash_encoded i; numbers = numbers_encoded i }

    -- a cell with a number or more is read back
    pub decode-encoded : 1 ≤ length c.numbers → decode_cell s (cell_bytes c) ≡ answer c
    unfolding decode_cell
    decode-encoded some =
        let long = length-cell_bytes c hash in
        rw (le-leb (cell_header + 4) (length (cell_bytes c)) (omega arith), eq-eqb (length (cell_bytes c) % 4) 0 (omega arith), le-leb (cell_size (cell_bytes c)) (max_size s) (omega (arith, size_encoded)))
        (ap answer cell_encoded)
