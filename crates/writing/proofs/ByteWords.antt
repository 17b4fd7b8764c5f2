-- Little-endian words of bytes, two bytes after two. Assumes nothing.
use mathlib.Core.Path.{◌≡◌, refl}
use mathlib.Core.List.{List, [], ◌∷◌, ◌++◌}
use Prim.Native.Nat.{ℕ, ◌+◌, ◌*◌, ◌/◌, ◌<◌}
use native.Mathlib.Omega.{arith}
use lib.ListN.{length, get_or, set, length-append}
use Rattle.definitions.specs.Card.{words_of}
use Rattle.writing.specs.Writing.{Wrote, Writing}
use Rattle.writing.proofs.Writes.{write_start, write_same, write_word, write_end}

words_next : (pair rest : List ℕ) → length pair ≡ 2 → words_of (pair ++ rest) ≡ (get_or pair 0 0 + 256 * get_or pair 1 0) ∷ words_of rest
unfolding words_of
words_next [] rest h = absurd (omega arith)
words_next (x ∷ []) rest h = absurd (omega arith)
words_next (x ∷ (y ∷ [])) rest h = refl
words_next (x ∷ (y ∷ (z ∷ l))) rest h = absurd (omega arith)

words_end : (rest : List ℕ) → length rest < 2 → words_of rest ≡ []
unfolding words_of
words_end [] h = refl
words_end (x ∷ []) h = refl
words_end (x ∷ (y ∷ l)) h = absurd (omega arith)

-- the words of so many pairs of bytes are written, and those of the bytes in `rest` are left
pub record Halved (bytes old now' rest : List ℕ) (count size : ℕ) : Type 0 where
  pub pairs : size ≡ 2
  pub place : 2 * count + length rest ≡ length bytes
  pub left : Writing old 0 (words_of bytes) now' count (words_of rest)

pub bytes_start : (bytes old rest : List ℕ) (count size : ℕ) → rest ≡ bytes → count ≡ 0 → size ≡ 2 → Halved bytes old old rest count size
bytes_start bytes old rest count size e z s = record { pairs = s; place = rw (e, z) (omega arith); left = rw (e, z) write_start }

module _ {bytes old now' rest : List ℕ} {count size : ℕ} (s : Halved bytes old now' rest count size) where
  pub bytes_next :
      (pair after : List ℕ) (i more next x : ℕ) → rest ≡ pair ++ after → length pair ≡ size → i ≡ count → more ≡ size → next ≡ count + 1
      → x ≡ get_or pair 0 0 + 256 * get_or pair 1 0 → Halved bytes old (set now' i x) after next more
  bytes_next pair after i more next x e h at m n w =
      let two : length pair ≡ 2 = omega (arith, s.pairs) in
      let long : length rest ≡ length pair + length after = rw e (length-append pair after) in
      record {
        pairs = omega (arith, s.pairs);
        place = omega (arith, s.place);
        left = rw (n, at, w) (write_word (write_same (rw e (words_next pair after two)) s.left));
      }

  pub bytes_end : length rest < size → Wrote old 0 (words_of bytes) now' (length bytes / 2)
  bytes_end h =
      let p = s.place in
      let t = s.pairs in
      let e : length bytes / 2 ≡ count = omega arith in
      rw e (write_end (write_same (words_end rest (omega arith)) s.left))
