-- The words of the image by the places of the atoms are those of the definitions. Assumes nothing.
use mathlib.Core.Bool.{true}
use mathlib.Core.Path.{◌≡◌, refl, sym, ◌∙◌, ap, ap₂, subst}
use mathlib.Core.List.{List, [], ◌∷◌, ◌++◌, map, append_assoc}
use Prim.Native.Nat.{ℕ, suc, ◌+◌, ◌*◌, ◌/◌, ◌≤◌, ◌<◌}
use native.Mathlib.Omega.{arith}
use lib.Dec.{ltb, leb}
use lib.ListN.{length, get_or, take, length-map}
use lib.Seq.{length-take-le}
use borrow.Author.Tests.{ltb-true}
use Rattle.definitions.specs.Lists.{all, each, below, ascending}
use Rattle.definitions.specs.Answer.{finding, refused, Refusal, outcome, verdict, ask}
use Rattle.definitions.specs.Literal.{atom, all_below}
use Rattle.definitions.specs.Image.{Row, Operator, Task, initial_state, row_right, operator_right}
use Rattle.definitions.specs.Step.{no_operator, operator_at}
use Rattle.definitions.specs.Checker.{Accepted, check}
use Rattle.definitions.specs.Groups.{groups, domain_of, domain_words, place_of, place_words, written}
use Rattle.definitions.specs.Fdr.{fdr_literal_words, counted_words, fdr_row_words, fdr_operator_words, fdr_parts}
use Rattle.definitions.specs.Fdr.{pair_words, fdr_words}
use Rattle.definitions.specs.Encoding.{value_in, encode_literal, encode_row, encode_operator, encode, encoded_image, encode_call}
use Rattle.definitions.proofs.ListLaws.{and_left, and_right, each_map}
use Rattle.definitions.proofs.ReadLaws.{row_effect, row_conditions, pre_low, rows_right_lem}
use Rattle.answer.proofs.Laws.{refused_first, handed_on}
use Rattle.task.specs.Reads.{task_of, Reads}
use Rattle.task.proofs.Questions.{task_read, operator_right_lem}
use Rattle.clause.specs.Rows.{clauses_of}
use Rattle.definitions.proofs.LiteralLaws.{list_low}
use Rattle.cover.specs.Join.{Placed}
use Rattle.cover.specs.Cover.{Covered}
use Rattle.writing.specs.Writing.{Wrote}
use Rattle.cover.specs.Domains.{domain_by, cover_words}
use Rattle.writing.specs.Directory.{directory_of, size_of}
use Rattle.writing.proofs.Writes.{wrote_same}
use Rattle.writing.proofs.DirectoryLaws.{directory_is, image_size}
use Rattle.cover.proofs.DomainLaws.{domains_size}
use Rattle.cover.proofs.Joining.{variable_low}
use Rattle.cover.proofs.Covering.{domains_are, places_are, domained}
use Rattle.writing.proofs.Target.{fits_done}
use Rattle.checker.specs.Accepts.{Accepts}
use Rattle.checker.proofs.Written.{call_accepted}
use Rattle.reencoding.specs.Words.{atoms_of, literal_by, literals_by, counted_by, row_by, rows_by, operator_by}
use Rattle.reencoding.specs.Parts.{words_of, lengths_of, lowered, operators_by, task_by, image_by}
use Rattle.reencoding.specs.Image.{Valued, Laid, encode_answer}
use Rattle.reencoding.proofs.WordLaws.{literals_length}
use Rattle.reencoding.proofs.SizeLaws.{operator_length}
use Rattle.reencoding.proofs.InitialLaws.{initial_are, lowered_length}

-- ---- one literal, one row, one operator
module _ (N : ℕ) (C : List (List ℕ)) (ps : List ℕ) (placed : Placed C N ps) where
  abbrev G : List (List ℕ)
  G = groups N C

  literal_is : (l : ℕ) → l < 2 * N → fdr_literal_words (encode_literal G l) ≡ literal_by ps l
  unfolding groups fdr_literal_words encode_literal literal_by atom
  literal_is l h = rw (placed.variable (l / 2) (omega arith), placed.value (l / 2) (omega arith))

  literals_are : (ls : List ℕ) → all_below (2 * N) ls ≡ true → each fdr_literal_words (map (encode_literal G) ls) ≡ literals_by ps ls
  unfolding all_below all each literals_by
  literals_are [] h = refl
  literals_are (l ∷ ls) h =
      ap₂ ◌++◌ (literal_is l (ltb-true l (2 * N) (and_left (ltb l (2 * N)) (all (λ x. ltb x (2 * N)) ls) h)))
      (literals_are ls (and_right (ltb l (2 * N)) (all (λ x. ltb x (2 * N)) ls) h))

  counted_are : (ls : List ℕ) → all_below (2 * N) ls ≡ true → counted_words (map (encode_literal G) ls) ≡ counted_by ps ls
  unfolding counted_words counted_by
  counted_are ls h = ap₂ (λ (n : ℕ) (l : List ℕ). n ∷ l) (length-map ls (encode_literal G)) (literals_are ls h)

  row_is : (r : Row) → row_right N r ≡ true → fdr_row_words (encode_row G r) ≡ row_by ps r
  unfolding groups fdr_row_words encode_row row_by atom
  row_is r h =
      let low = row_effect N r h in
      let c = counted_are r.conditions (row_conditions N r h) in
      rw (placed.variable (r.effect / 2) (omega arith), placed.value (r.effect / 2) (omega arith), ← c)

  rows_are : (rs : List Row) → all (row_right N) rs ≡ true → each fdr_row_words (map (encode_row G) rs) ≡ rows_by ps rs
  unfolding all each rows_by
  rows_are [] h = refl
  rows_are (r ∷ rs) h =
      ap₂ ◌++◌ (row_is r (and_left (row_right N r) (all (row_right N) rs) h)) (rows_are rs (and_right (row_right N r) (all (row_right N) rs) h))

  operator_is : (o : Operator) → operator_right N o ≡ true → fdr_operator_words (encode_operator G o) ≡ operator_by ps o
  unfolding fdr_operator_words encode_operator operator_by
  operator_is o h =
      ap₂ ◌++◌ (counted_are o.precondition (pre_low N o h))
      (ap₂ (λ (n : ℕ) (l : List ℕ). n ∷ l) (length-map o.rows (encode_row G)) (rows_are o.rows (rows_right_lem N o h)))

  -- all operators
  module _ where
    Right : List Operator → Type 0
    Right os = (i : ℕ) → i < length os → operator_right N (get_or os i no_operator) ≡ true

    operators_are : (os : List Operator) → Right os → each (λ p. p) (map fdr_operator_words (map (encode_operator G) os)) ≡ operators_by ps os
    unfolding Right each operators_by
    operators_are [] h = refl
    operators_are (o ∷ os) h = ap₂ ◌++◌ (operator_is o (h 0 (omega arith))) (operators_are os (λ i k. h (suc i) (omega arith)))

    lengths_are : (os : List Operator) → Right os → map length (map fdr_operator_words (map (encode_operator G) os)) ≡ map words_of os
    unfolding Right words_of
    lengths_are [] h = refl
    lengths_are (o ∷ os) h =
        let a = ap length (operator_is o (h 0 (omega arith))) in
        let b = operator_length ps o in
        ap₂ (λ (n : ℕ) (l : List ℕ). n ∷ l) (omega arith) (lengths_are os (λ i k. h (suc i) (omega arith)))

-- ---- five parts
cons_five :
    (a b c d a' b' c' d' : ℕ) (l l' : List ℕ) → a ≡ a' → b ≡ b' → c ≡ c' → d ≡ d' → l ≡ l'
    → (a ∷ b ∷ c ∷ d ∷ l) ≡ (a' ∷ b' ∷ c' ∷ d' ∷ l')
cons_five a b c d a' b' c' d' l l' p q r s t = cc

append_five :
    (a b c d e a' b' c' d' e' : List ℕ) → a ≡ a' → b ≡ b' → c ≡ c' → d ≡ d' → e ≡ e'
    → (a ++ (b ++ (c ++ (d ++ e)))) ≡ (a' ++ (b' ++ (c' ++ (d' ++ e'))))
append_five a b c d e a' b' c' d' e' p q r s t = cc

-- ---- the task's lists are below its number of atoms
pub goal_below : (w : List ℕ) → Reads w → all_below (2 * (task_of w).atoms) (task_of w).goal ≡ true
goal_below w rd = list_low (task_of w).atoms (task_of w).goal (task_read w rd).goal_right_lem

pub initial_below : (w : List ℕ) → Reads w → all_below (task_of w).atoms (task_of w).initial ≡ true
initial_below w rd = and_right (ascending (task_of w).initial) (all_below (task_of w).atoms (task_of w).initial) (task_read w rd).initial_right

-- ---- the image
module _ (w : List ℕ) (rd : Reads w) (C : List (List ℕ)) (ps ss ns : List ℕ) (n : ℕ) (cov : Covered (task_of w).atoms C ps ss ns n) where
  abbrev t : Task
  t = task_of w

  abbrev groups_of : List (List ℕ)
  groups_of = groups (task_of w).atoms C

  rights : (i : ℕ) → i < length (task_of w).operators → operator_right (task_of w).atoms (get_or (task_of w).operators i no_operator) ≡ true
  unfolding operator_at
  rights i h = operator_right_lem w rd i h

  variables : length groups_of ≡ n
  unfolding groups
  variables = sym cov.grouped.count

  domains_part : each domain_words (map (domain_of C) groups_of) ≡ each (domain_by ss ns) (below n)
  domains_part = each_map domain_words (domain_of C) groups_of ∙ domains_are (task_of w).atoms C ps ss ns n cov

  atoms_part : each place_words (map (λ a. place_of a 0 groups_of) (below (task_of w).atoms)) ≡ ps
  atoms_part = each_map place_words (λ a. place_of a 0 groups_of) (below (task_of w).atoms) ∙ places_are (task_of w).atoms C ps ss ns n cov

  initial_part : map (value_in (initial_state t) 0) groups_of ≡ lowered ps (task_of w).initial (take n ss)
  initial_part = initial_are t C ps ss ns n cov (initial_below w rd)

  goal_part : each fdr_literal_words (map (encode_literal groups_of) (task_of w).goal) ≡ literals_by ps (task_of w).goal
  goal_part = literals_are (task_of w).atoms C ps cov.grouped.placed (task_of w).goal (goal_below w rd)

  operators_part : each (λ p. p) (map fdr_operator_words (map (encode_operator groups_of) (task_of w).operators)) ≡ operators_by ps (task_of w).operators
  unfolding Right
  operators_part = operators_are (task_of w).atoms C ps cov.grouped.placed (task_of w).operators rights

  parts_lengths : map length (fdr_parts (encode t C)) ≡ lengths_of n t
  unfolding fdr_parts encode lengths_of Right below
  parts_lengths =
      cons_five _ _ _ _ (2 * n) (2 * (task_of w).atoms) n (2 * length (task_of w).goal) _ (map words_of (task_of w).operators)
      (ap length domains_part ∙ domains_size ss ns 0 n)
      (ap length atoms_part ∙ cov.places)
      (length-map groups_of (value_in (initial_state t) 0) ∙ variables)
      (ap length goal_part ∙ literals_length ps (task_of w).goal)
      (lengths_are (task_of w).atoms C ps cov.grouped.placed (task_of w).operators rights)

  parts_words :
      each (λ p. p) (fdr_parts (encode t C))
      ≡ each (domain_by ss ns) (below n)
      ++ (ps ++ (lowered ps (task_of w).initial (take n ss) ++ (literals_by ps (task_of w).goal ++ operators_by ps (task_of w).operators)))
  unfolding fdr_parts encode each
  parts_words = append_five _ _ _ _ _ _ _ _ _ _ domains_part atoms_part initial_part goal_part operators_part

  header_is :
      length (encode t C).domains ∷ length (encode t C).operators
      ∷ pair_words (2 + 2 * length (fdr_parts (encode t C))) (fdr_parts (encode t C))
      ≡ directory_of n (length (task_of w).operators) (lengths_of n t)
  unfolding encode
  header_is =
      let a : length (map (domain_of C) groups_of) ≡ n = length-map groups_of (domain_of C) ∙ variables in
      let b = length-map (task_of w).operators (encode_operator groups_of) in
      let e = encode t C in
      directory_is (length e.domains) (length e.operators) (fdr_parts e) ∙ rw (a, b, parts_lengths)

  pub image_is : encoded_image t C ≡ image_by t ps ss ns n
  unfolding encoded_image fdr_words image_by cover_words task_by
  image_is = ap₂ ◌++◌ header_is (parts_words ∙ sym (append_assoc (each (domain_by ss ns) (below n)) ps _))

  pub image_length : length (image_by t ps ss ns n) ≡ size_of (lengths_of n t)
  unfolding encoded_image fdr_words
  image_length =
      let e = encode t C in
      ap length (sym image_is) ∙ image_size (length e.domains) (length e.operators) (fdr_parts e) ∙ ap size_of parts_lengths

  pub laid : Laid t ps ss ns n
  laid =
      let few = cov.few in
      let count = cov.grouped.few in
      let sizes = cov.sizes in
      record {
        valued = record {
          few = omega arith;
          places = cov.places;
          low = cov.low;
          variable = λ a h. (let v = variable_low C (task_of w).atoms ps cov.grouped.placed a h in let c = cov.grouped.count in omega arith);
          sizes = omega arith;
        };
        domained = domained (task_of w).atoms C ps ss ns n cov;
      }

  -- question 16, and the image written
  module _ (old : List ℕ) (size : ℕ) (es : size ≡ size_of (lengths_of n t)) where
    pub encode_not : (r : Refusal) → refused r ≡ ask 16 (leb size (length old)) → refused r ≡ encode_answer t C (length old)
    unfolding encode_answer
    encode_not r h =
        let e : size ≡ length (encoded_image t C) = es ∙ sym image_length ∙ sym (ap length image_is) in
        handed_on _ _ r (subst (λ (k : ℕ). refused r ≡ ask 16 (leb k (length old))) e h)

    pub encode_done :
        size ≤ length old → (new : List ℕ) (end : ℕ) → Wrote old 0 (image_by t ps ss ns n) new end
        → outcome (finding size) new ≡ written old (encode_answer t C (length old))
    unfolding encode_answer
    encode_done h new end wrote =
        let a = ap length image_is in
        let b = image_length in
        let e : size ≡ length (encoded_image t C) = omega arith in
        ap (λ (k : ℕ). outcome (finding k) new) e
        ∙ fits_done 16 (length (encoded_image t C)) (encoded_image t C) old (omega arith) (wrote_same image_is wrote)

-- ---- the call
module _ (w c : List ℕ) (marks : ℕ) (old : List ℕ) where
  pub encode_refused : (r : Refusal) → refused r ≡ verdict (check w c marks) → refused r ≡ encode_call w c marks (length old)
  unfolding encode_call
  encode_refused r e = refused_first (check w c marks) _ r e

  pub encode_accepted :
      Accepts w c marks → written old (encode_answer (task_of w) (clauses_of c) (length old)) ≡ written old (encode_call w c marks (length old))
  unfolding encode_call encode_answer
  encode_accepted a = call_accepted w c marks (λ (x : Accepted). encode_answer x.task x.clauses (length old)) old a

-- ---- the places are those of the task's atoms
pub atoms_of_lem : (w ps ss : List ℕ) (n : ℕ) → Valued (task_of w) ps ss n → (task_of w).atoms ≡ atoms_of ps
unfolding atoms_of
atoms_of_lem w ps ss n v = let e = v.places in omega arith

pub values_length : (w ps ss : List ℕ) (n : ℕ) → Valued (task_of w) ps ss n → length (lowered ps (task_of w).initial (take n ss)) ≡ n
values_length w ps ss n v = lowered_length ps (task_of w).initial (take n ss) ∙ length-take-le n ss v.sizes
