-- A target that is too short, and words written at the front of one that is long enough. Assumes nothing.
use mathlib.Core.Bool.{Bool, true, false}
use mathlib.Core.Path.{◌≡◌, ap}
use mathlib.Core.List.{List}
use Prim.Native.Nat.{ℕ, ◌≤◌, ◌<◌}
use lib.Dec.{leb}
use lib.ListN.{length}
use borrow.Author.Tests.{le-leb, lt-leb}
use Rattle.definitions.specs.Answer.{Answer, finding, refused, outcome, ask, ask_at, ◌>>=◌}
use Rattle.definitions.specs.Groups.{Written, written}
use Rattle.writing.specs.Writing.{Wrote}
use Rattle.writing.proofs.Writes.{wrote_front}

-- question q asks a test, and the finding is a number and words written
module _ (q count : ℕ) (ws old : List ℕ) (b : Bool) where
  abbrev pub asks : Answer Written
  asks = ask q b >>= λ _. finding (record { count = count; words = ws })

  pub asked_not : b ≡ false → outcome (refused (record { number = q; first = 0; second = 0 })) old ≡ written old asks
  unfolding written ask ask_at ◌>>=◌ outcome
  asked_not h = rw h

  pub asked_done :
      b ≡ true → length ws ≤ length old → {new : List ℕ} {end : ℕ} → Wrote old 0 ws new end
      → outcome (finding count) new ≡ written old asks
  unfolding written ask ask_at ◌>>=◌ outcome
  asked_done h room w = rw h (ap (outcome (finding count)) (wrote_front room w))

-- it asks that the words fit
module _ (q count : ℕ) (ws old : List ℕ) where
  abbrev pub fits : Answer Written
  fits = asks q count ws old (leb (length ws) (length old))

  pub fits_not : length old < length ws → outcome (refused (record { number = q; first = 0; second = 0 })) old ≡ written old fits
  fits_not h = asked_not q count ws old (leb (length ws) (length old)) (lt-leb (length ws) (length old) h)

  pub fits_done : length ws ≤ length old → {new : List ℕ} {end : ℕ} → Wrote old 0 ws new end → outcome (finding count) new ≡ written old fits
  fits_done h w = asked_done q count ws old (leb (length ws) (length old)) (le-leb (length ws) (length old) h) h w
