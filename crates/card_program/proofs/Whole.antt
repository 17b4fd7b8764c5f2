-- The card of what was read is the card of all bytes of the reader. Assumes nothing.
use Rattle.std.proofs.Common.{arith, ◌≡◌, refl, sym, ap, subst, ◌∙◌, ℕ, ◌+◌, ◌<◌, Bool, true, false, List, [], ◌++◌, length, IfSome, OnOk}
use mathlib.Core.Bool.{◌&&◌}
use mathlib.Core.List.{append-nil}
use lib.Dec.{leb, eqb}
use lib.ListN.{take, drop, length-append}
use lib.Seq.{take-append_seam}
use borrow.Author.Tests.{leb-true, leb-false, lt-leb}
use Rattle.std.specs.Prelude.{None, Some, Ok, Err, ◌%◌}
use Rattle.std.specs.declared.result.Result.{Result}
use Rattle.std.specs.declared.option.Option.{Option}
use Rattle.std.specs.Io.KnownBytes.{Appends, Consumes, IsAtEnd}
use Rattle.definitions.specs.Answer.{refused, ask, ask_at, ◌>>=◌}
use Rattle.definitions.specs.Card.{most_input, card_answer, card, refused_text}

and_no : (a b : Bool) → b ≡ false → (a && b) ≡ false
and_no true b e = e
and_no false b e = refl

-- an input that is too long is refused, whatever its bytes are
module _ (bs : List ℕ) (long : most_input < length bs) where
  answer_long : card_answer bs ≡ refused (record { number = 1; first = 0; second = 0 })
  unfolding card_answer ask ask_at ◌>>=◌
  answer_long = rw (and_no (leb 4 (length bs) && eqb (length bs % 2) 0) (leb (length bs) most_input) (lt-leb (length bs) most_input long))

  card_long : card bs ≡ refused_text (record { number = 1; first = 0; second = 0 })
  unfolding card
  card_long = rw (answer_long, card)

-- the bytes that were read, and those that are left: none, unless too many were read
card_whole : (front rest : List ℕ) → (length front < most_input + 1 → rest ≡ []) → card front ≡ card (front ++ rest)
card_whole front rest end = go (leb (length front) most_input) refl
  where
    go : (b : Bool) → leb (length front) most_input ≡ b → card front ≡ card (front ++ rest)
    go true e =
        let few = leb-true (length front) most_input e in
        ap card (sym (ap (λ l. front ++ l) (end (omega arith)) ∙ append-nil front))
    go false e =
        let many = leb-false (length front) most_input e in
        let size = length-append front rest in
        card_long front (omega arith) ∙ sym (card_long (front ++ rest) (omega arith))

pub on_ok : {E P Q : Type 0} (r : Result (Unit {0}) E) → (P → Q) → OnOk r P → OnOk r Q
on_ok (Ok x) f h = f h
on_ok (Err e) f h = tt

-- what was written is the card of all bytes, where they are known
pub card_written :
    (old new p q : Option (List ℕ)) (front text : List ℕ)
    → Consumes old new front → (length front < most_input + 1 → IsAtEnd new) → text ≡ card front → Appends p q text
    → IfSome old (λ bytes. Appends p q (card bytes))
card_written None new p q front text c end same wrote = tt
card_written (Some xs) None p q front text c end same wrote = absurd c
card_written (Some xs) (Some ys) p q front text c end same wrote =
    subst (Appends p q) (same ∙ card_whole front ys end ∙ ap card (sym c)) wrote

-- the part of the room that the card takes
pub card_taken : (bs old room : List ℕ) (end : ℕ) → (room ≡ card bs ++ drop end old) → end ≡ length (card bs) → take end room ≡ card bs
card_taken bs old room end e n =
    ap (take end) e ∙ ap (λ k. take k (card bs ++ drop end old)) n ∙ take-append_seam (card bs) (drop end old)
