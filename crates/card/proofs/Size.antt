-- The text of a card is at most `most_text` bytes long. Assumes nothing.
use mathlib.Core.Path.{◌≡◌, refl, ◌∙◌, ap}
use mathlib.Core.Bool.{Bool, true, false, cond}
use mathlib.Core.List.{List, [], ◌∷◌, ◌++◌, map, Memᴰ}
use Prim.Native.Nat.{ℕ, zero, suc, ◌+◌, ◌*◌, ◌/◌, ◌≤◌, ◌<◌}
use native.Mathlib.Omega.{arith}
use native.Mathlib.Nat.{mul-le-mul_left}
use lib.ListN.{length, length-append}
use Rattle.definitions.specs.Lists.{each, all}
use Rattle.definitions.specs.Answer.{Refusal}
use Rattle.definitions.specs.Literal.{atom}
use Rattle.definitions.specs.Clauses.{width, most_rows}
use Rattle.definitions.specs.Groups.{mutex, join, groups_below, groups, none_omitted}
use Rattle.definitions.specs.Text.{decimal, line}
use Rattle.definitions.specs.Card.{literal_text, clause_line, clauses_word, rounds_word, groups_word, refused_word}
use Rattle.definitions.specs.Card.{none_word, group_line, found_text, refused_text}
use Rattle.definitions.proofs.GroupLaws.{In, all_below_lem}
use Rattle.text.proofs.Size.{decimal_most, decimal_atom, Short, line_size, short_map, short_both, each_size, map_length}
use Rattle.card.specs.Text.{finding_of}
use Rattle.card.specs.Room.{most_text}

-- ---- clauses
literal_size : (l : ℕ) → l < 2048 → length (literal_text l) ≤ 5
unfolding literal_text atom
literal_size l h = let d = decimal_atom (l / 2) (omega arith) in omega arith

clause_size : (f : List ℕ) → length f ≤ width → ((l : ℕ) → Memᴰ l f → l < 2048) → length (clause_line f) ≤ 6 * width + 1
unfolding clause_line
clause_size f w h =
    let s = line_size 5 (map literal_text f) (short_map literal_text 5 f (λ l m. literal_size l (h l m))) in
    let e = map_length literal_text f in
    let m = mul-le-mul_left 6 w in
    omega (arith, ap (λ (k : ℕ). 6 * k) e)

clauses_size :
    (C : List (List ℕ)) → length C ≤ most_rows → ((f : List ℕ) → Memᴰ f C → length f ≤ width)
    → ((f : List ℕ) → Memᴰ f C → (l : ℕ) → Memᴰ l f → l < 2048) → length (each clause_line C) ≤ (6 * width + 1) * most_rows
clauses_size C few wide low =
    let s = each_size clause_line (6 * width + 1) C (λ f m. clause_size f (wide f m) (low f m)) in
    let m = mul-le-mul_left (6 * width + 1) few in
    omega arith

-- ---- groups
none_short : (b : Bool) → Short 4 (cond b [] (none_word ∷ []))
unfolding none_word
none_short true = tt
none_short false = (omega arith, tt)

none_one : (b : Bool) → length (cond b [] (none_word ∷ [])) ≤ 1
none_one true = omega arith
none_one false = omega arith

group_size : (C : List (List ℕ)) (g : List ℕ) → ((x : ℕ) → Memᴰ x g → x < 1024) → length (group_line C g) ≤ 5 * length g + 6
unfolding group_line
group_size C g h =
    let n = cond (none_omitted C g) [] (none_word ∷ []) in
    let s =
    line_size 4 (map decimal g ++ n)
    (short_both 4 (map decimal g) n (short_map decimal 4 g (λ x m. decimal_atom x (h x m))) (none_short (none_omitted C g))) in
    let e = map_length decimal g in
    let p = length-append (map decimal g) n in
    let o = none_one (none_omitted C g) in
    let q : length (map decimal g ++ n) ≤ length g + 1 = omega arith in
    omega arith

lines_size : (C gs : List (List ℕ)) → ((v x : ℕ) → In gs v x → x < 1024) → length (each (group_line C) gs) ≤ 5 * length (each (λ g. g) gs) + 6 * length gs
unfolding each
lines_size C [] h = omega arith
lines_size C (g ∷ gs) h =
    let r = lines_size C gs (λ v x m. h (suc v) x m) in
    let s = group_size C g (λ x m. h 0 x m) in
    let p = length-append (group_line C g) (each (group_line C) gs) in
    let q = length-append g (each (λ g. g) gs) in
    omega arith

module _ (C : List (List ℕ)) where
  join_total : (a : ℕ) (gs : List (List ℕ)) → length (each (λ g. g) (join C a gs)) ≡ suc (length (each (λ g. g) gs))
  unfolding join each
  join_total a [] = refl
  join_total a (g ∷ gs) = go (all (mutex C a) g) refl (join_total a gs)
    where
      go :
          (b : Bool) → all (mutex C a) g ≡ b → length (each (λ g. g) (join C a gs)) ≡ suc (length (each (λ g. g) gs))
          → length (each (λ g. g) (join C a (g ∷ gs))) ≡ suc (length (g ++ each (λ g. g) gs))
      go true e rec =
          rw (e, join)
          (let p = length-append (g ++ (a ∷ [])) (each (λ g. g) gs) in
          let q = length-append g (a ∷ []) in let r = length-append g (each (λ g. g) gs) in omega arith)
      go false e rec =
          rw (e, join) (let p = length-append g (each (λ g. g) (join C a gs)) in let r = length-append g (each (λ g. g) gs) in omega arith)

  join_most : (a : ℕ) (gs : List (List ℕ)) → length (join C a gs) ≤ suc (length gs)
  unfolding join
  join_most a [] = omega arith
  join_most a (g ∷ gs) = go (all (mutex C a) g) refl (join_most a gs)
    where
      go : (b : Bool) → all (mutex C a) g ≡ b → length (join C a gs) ≤ suc (length gs) → length (join C a (g ∷ gs)) ≤ suc (suc (length gs))
      go true e rec = rw (e, join) (omega arith)
      go false e rec = rw (e, join) (omega arith)

  groups_total : (k : ℕ) → length (each (λ g. g) (groups_below C k)) ≡ k
  unfolding groups_below each
  groups_total zero = refl
  groups_total (suc k) = join_total k (groups_below C k) ∙ ap suc (groups_total k)

  groups_most : (k : ℕ) → length (groups_below C k) ≤ k
  unfolding groups_below
  groups_most zero = omega arith
  groups_most (suc k) = let j = join_most k (groups_below C k) in let r = groups_most k in omega arith

  group_lines_size : (N : ℕ) → N ≤ 1024 → length (each (group_line C) (groups_below C N)) ≤ 11264
  group_lines_size N few =
      let s = lines_size C (groups_below C N) (λ v x m. let b = all_below_lem C N v x m in omega arith) in
      let t = groups_total N in
      let m = groups_most N in
      omega arith

-- ---- the text
counts_size : (a b : ℕ) → length (line (clauses_word ∷ decimal a ∷ rounds_word ∷ decimal b ∷ [])) ≤ 85
unfolding clauses_word rounds_word
counts_size a b = line_size 20 (clauses_word ∷ decimal a ∷ rounds_word ∷ decimal b ∷ []) (omega arith, (decimal_most a, (omega arith, (decimal_most b, tt))))

groups_size : (a : ℕ) → length (line (groups_word ∷ decimal a ∷ [])) ≤ 43
unfolding groups_word
groups_size a = line_size 20 (groups_word ∷ decimal a ∷ []) (omega arith, (decimal_most a, tt))

pub refusal_size : (r : Refusal) → length (refused_text r) ≤ most_text
unfolding refused_text refused_word most_text
refusal_size r =
    let s =
    line_size 20 (refused_word ∷ decimal r.number ∷ decimal r.first ∷ decimal r.second ∷ [])
    (omega arith, (decimal_most r.number, (decimal_most r.first, (decimal_most r.second, tt)))) in
    omega arith

pub found_size :
    (N : ℕ) (C : List (List ℕ)) (r : ℕ) → N ≤ 1024 → length C ≤ most_rows → ((f : List ℕ) → Memᴰ f C → length f ≤ width)
    → ((f : List ℕ) → Memᴰ f C → (l : ℕ) → Memᴰ l f → l < 2048) → length (found_text N (finding_of C r)) ≤ most_text
unfolding found_text groups most_text
found_size N C r few rows wide low =
    let one = line (clauses_word ∷ decimal (length C) ∷ rounds_word ∷ decimal r ∷ []) in
    let two = each clause_line C in
    let three = line (groups_word ∷ decimal (length (groups_below C N)) ∷ []) in
    let four = each (group_line C) (groups_below C N) in
    let a = counts_size (length C) r in
    let b = clauses_size C rows wide low in
    let c = groups_size (length (groups_below C N)) in
    let d = group_lines_size C N few in
    let x = length-append one (two ++ (three ++ four)) in
    let y = length-append two (three ++ four) in
    let z = length-append three four in
    omega arith
