-- Bytes put at a place of a buffer: one text behind another, and one byte more.
use Prim.Native.Nat.{ℕ, suc, ◌+◌, ◌-◌, min, ◌≤◌}
use mathlib.Core.Path.{◌≡◌, refl, sym, ap, ◌∙◌}
use mathlib.Core.List.{List, [], ◌∷◌, ◌++◌}
use native.Mathlib.Decide.{dec_le}
use native.Mathlib.Omega.{arith}
use lib.ListN.{length, take, drop, length-append, take-append-drop}
use lib.Seq.{sets, sets-eq, take_at, length-sets, set_out, length-take-le, take-length}
use Rattle.laws.proofs.SetsLaws.{sets-append}
use Rattle.listing.specs.declared.text.Output.{Output}
use Rattle.listing.specs.Put.{Put, Puts}

-- nothing is put beyond the end
sets_past : (l : List ℕ) (i : ℕ) (xs : List ℕ) → length l ≤ i → sets l i xs ≡ l
sets_past l i [] h = refl
sets_past l i (x ∷ xs) h = rw (set_out l i x h) (sets_past l (suc i) xs (omega arith))

-- bytes put at i, and others at the place behind them
sets_then : (l : List ℕ) (i : ℕ) (xs ys : List ℕ) → sets (sets l i xs) (i + min (length xs) (length l - i)) ys ≡ sets l i (xs ++ ys)
sets_then l i xs ys = rw (sets-append l i xs ys) (by (dec_le (length xs) (length l - i)))
  where
    by : Dec (length xs ≤ length l - i) → sets (sets l i xs) (i + min (length xs) (length l - i)) ys ≡ sets (sets l i xs) (i + length xs) ys
    by (yes fit) =
        let e : i + min (length xs) (length l - i) ≡ i + length xs = omega arith in
        rw e
    by (no over) =
        sets_past (sets l i xs) (i + min (length xs) (length l - i)) ys (omega (arith, length-sets l i xs))
        ∙ sym (sets_past (sets l i xs) (i + length xs) ys (omega (arith, length-sets l i xs)))

-- one text behind another
pub put_then : {l m r : List ℕ} {i j k : ℕ} {xs ys : List ℕ} → Put l i xs m j → Put m j ys r k → Put l i (xs ++ ys) r k
put_then {l} {m} {r} {i} {j} {k} {xs} {ys} first second =
    record {
      bytes = second.bytes ∙ rw (first.bytes, first.place) (sets_then l i xs ys);
      place =
          let e : length m ≡ length l = rw first.bytes (length-sets l i xs) in
          omega (arith, first.place, second.place, length-append xs ys);
    }

-- the bytes that fit are all that is put
pub sets_fitting : (l : List ℕ) (i : ℕ) (xs : List ℕ) → sets l i (take (min (length xs) (length l - i)) xs) ≡ sets l i xs
sets_fitting l i xs = by (dec_le (length xs) (length l - i))
  where
    by : Dec (length xs ≤ length l - i) → sets l i (take (min (length xs) (length l - i)) xs) ≡ sets l i xs
    by (yes fit) =
        let e : min (length xs) (length l - i) ≡ length xs = omega arith in
        rw (e, take-length xs)
    by (no over) =
        let n : ℕ = length l - i in
        let e : min (length xs) (length l - i) ≡ n = omega arith in
        let f : length (take n xs) ≡ n = length-take-le n xs (omega arith) in
        rw e
        (sym (ap (λ (vs : List ℕ). sets l i vs) (sym (take-append-drop n xs)) ∙ sets-append l i (take n xs) (drop n xs)
        ∙ sets_past (sets l i (take n xs)) (i + length (take n xs)) (drop n xs) (omega (arith, length-sets l i (take n xs)))))

-- ---- outputs

-- as many bytes as have room
pub puts_fitting : {before after : Output} (text : List ℕ) (n : ℕ) → n ≡ min (length text) (length before.buffer.now - before.next)
    → after.buffer.ghost_name ≡ before.buffer.ghost_name → after.buffer.now ≡ sets before.buffer.now before.next (take n text) → after.next ≡ before.next + n
    → Puts before text after
puts_fitting {before} text n fits same_buffer bytes place =
    record {
      same_buffer = same_buffer;
      put = record { bytes = bytes ∙ rw fits (sets_fitting before.buffer.now before.next text); place = omega arith };
    }

-- nothing is put where the place is past the buffer's end
pub puts_past : (out : Output) (text : List ℕ) → length out.buffer.now ≤ out.next → Puts out text out
puts_past out text h =
    record { same_buffer = refl; put = record { bytes = sym (sets_past out.buffer.now out.next text h); place = omega arith } }

-- an equal text
pub puts_text : {a b : Output} {xs ys : List ℕ} → Puts a xs b → xs ≡ ys → Puts a ys b
puts_text puts e = rw e at puts

-- one text behind another
pub puts_then : {a b c : Output} {xs ys : List ℕ} → Puts a xs b → Puts b ys c → Puts a (xs ++ ys) c
puts_then first second = record { same_buffer = second.same_buffer ∙ first.same_buffer; put = put_then first.put second.put }

-- the buffer keeps its length
pub puts_length : {a b : Output} {xs : List ℕ} → Puts a xs b → length b.buffer.now ≡ length a.buffer.now
puts_length {a} {xs = xs} puts = rw puts.put.bytes (length-sets a.buffer.now a.next xs)

-- a text that has room is put whole
pub put_whole : {l m : List ℕ} {i j : ℕ} {xs : List ℕ} → Put l i xs m j → i + length xs ≤ length l → (j ≡ i + length xs) × (take j m ≡ take i l ++ xs)
put_whole {l} {m} {i} {j} {xs} put h =
    let place : j ≡ i + length xs = omega (arith, put.place) in
    let long : length (take i l ++ xs) ≡ i + length xs = omega (arith, length-append (take i l) xs, length-take-le i l (omega arith)) in
    (place, rw (place, put.bytes, sets-eq xs l i h) (take_at (take i l ++ xs) (drop (i + length xs) l) (i + length xs) long))
