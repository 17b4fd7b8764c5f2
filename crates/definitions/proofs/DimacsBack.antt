-- What is written, read again for the same task into enough rows, gives the same rows. Assumes nothing.
use mathlib.Core.Bool.{Bool, true, false, not, ◌&&◌, cond}
use mathlib.Core.Path.{◌≡◌, refl, sym, ◌∙◌, ap}
use mathlib.Core.List.{List, [], ◌∷◌, ◌++◌, map, map-append, Memᴰ}
use Prim.Native.Nat.{ℕ, suc, ◌+◌, ◌-◌, ◌*◌, ◌/◌, ◌^◌, ◌≤◌, ◌<◌}
use native.Mathlib.Nat.{mul-div_cancel_left}
use native.Mathlib.Omega.{arith}
use lib.Dec.{ltb, leb}
use lib.ListN.{length, drop}
use borrow.Author.Tests.{eq-eqb, ne_eqb, ltb-true, le-leb}
use Rattle.definitions.specs.Lists.{all, empty, each, ascending, compare_words, is_same}
use Rattle.definitions.specs.Answer.{finding, ask_at, ask, ◌>>=◌}
use Rattle.definitions.specs.Literal.{atom, positive, all_below, literal_list}
use Rattle.definitions.specs.Image.{Task, read_task}
use Rattle.definitions.specs.Clauses.{width, most_rows, clause_words, read_clauses}
use Rattle.definitions.specs.Groups.{Written}
use Rattle.definitions.specs.Text.{decimal, line}
use Rattle.definitions.specs.Dimacs.{head_bytes, literal_word, row_fields, dimacs_text, write_dimacs, split, ended, all_ended, behind_comments, blank}
use Rattle.definitions.specs.Dimacs.{headed, Number, is_number, number_in, words_in, numbers_in, is_zero, is_the, literal_of, says_clauses, is_dimacs}
use Rattle.definitions.specs.Dimacs.{clauses_in, fits_row, read_dimacs}
use Rattle.definitions.proofs.ListLaws.{and_left, and_right, and_both, all_of, all_append}
use Rattle.definitions.proofs.LiteralLaws.{Shape, is, isnt, shape, list_ascends}
use Rattle.definitions.specs.Clauses.{GoodClause}
use Rattle.definitions.proofs.AnswerLaws.{same_finding, bind_of}
use Rattle.definitions.proofs.LiteralLaws.{list_low}
use Rattle.definitions.proofs.ReadLaws.{read_right}
use Rattle.definitions.proofs.RowsRead.{RightSet, rows_right_lem}
use Rattle.definitions.proofs.Accepts.{words_length}
use Rattle.definitions.proofs.DimacsNumbers.{Reads, decimal_reads, minus_reads, number_word}
use Rattle.definitions.proofs.DimacsLaws.{split_each, split_each_ends, tokens_blank, Fields, last, more, tokens_line, tokens_lines}
use Rattle.definitions.proofs.DimacsRows.{distinct_in_order, ascending_apart}

-- ---- literals
-- the number that a literal is written as
signed : ℕ → Number
signed l = record { negative = not (positive l); size = atom l + 1 }

plain : ℕ → Number
plain n = record { negative = false; size = n }

literal_back : (l : ℕ) → literal_of (signed l) ≡ l
unfolding literal_of signed
literal_back l = go (shape l)
  where
    go : Shape l → 2 * (atom l + 1 - 1) + cond (not (positive l)) 1 0 ≡ l
    go (is k a e x y c) = rw (x, y) (omega arith)
    go (isnt k a e x y c) = rw (x, y) (omega arith)

literal_reads : (l : ℕ) → atom l + 1 < 10 ^ 20 → Reads (literal_word l) (signed l)
unfolding literal_word signed
literal_reads l h = go (positive l) refl
  where
    go : (b : Bool) → positive l ≡ b → Reads (literal_word l) (record { negative = not (positive l); size = atom l + 1 })
    go true e = rw (e, literal_word) (decimal_reads (atom l + 1) h)
    go false e = rw (e, literal_word) (minus_reads (atom l + 1) (omega arith) h)

-- ---- a clause set over N atoms, its literals below 2N
module _ (N : ℕ) (few : N ≤ 1024) where
  small : (l : ℕ) → ltb l (2 * N) ≡ true → atom l + 1 ≤ N
  unfolding atom
  small l h = let k = ltb-true l (2 * N) h in omega arith

  word : (l : ℕ) → ltb l (2 * N) ≡ true → Reads (literal_word l) (signed l)
  word l h = literal_reads l (let k = small l h in omega arith)

  zero_reads : Reads (decimal 0) (plain 0)
  unfolding plain
  zero_reads = decimal_reads 0 (omega arith)

  row_fields_lem : (f : List ℕ) → all_below (2 * N) f ≡ true → Fields (row_fields f)
  unfolding row_fields all_below all
  row_fields_lem [] h = last (number_word (decimal 0) zero_reads.right)
  row_fields_lem (l ∷ []) h =
      more (number_word (literal_word l) (word l (and_left (ltb l (2 * N)) true h)).right) (last (number_word (decimal 0) zero_reads.right))
  row_fields_lem (l ∷ (m ∷ f)) h =
      more (number_word (literal_word l) (word l (and_left (ltb l (2 * N)) (all (λ x. ltb x (2 * N)) (m ∷ f)) h)).right)
      (row_fields_lem (m ∷ f) (and_right (ltb l (2 * N)) (all (λ x. ltb x (2 * N)) (m ∷ f)) h))

  row_right_lem : (f : List ℕ) → all_below (2 * N) f ≡ true → all is_number (row_fields f) ≡ true
  unfolding row_fields all_below all
  row_right_lem [] h = and_both zero_reads.right refl
  row_right_lem (l ∷ f) h =
      and_both (word l (and_left (ltb l (2 * N)) (all (λ x. ltb x (2 * N)) f) h)).right
      (row_right_lem f (and_right (ltb l (2 * N)) (all (λ x. ltb x (2 * N)) f) h))

  row_numbers : (f : List ℕ) → all_below (2 * N) f ≡ true → map number_in (row_fields f) ≡ map signed f ++ (plain 0 ∷ [])
  unfolding row_fields all_below all
  row_numbers [] h = ap (λ z. z ∷ []) zero_reads.value
  row_numbers (l ∷ f) h =
      rw ((word l (and_left (ltb l (2 * N)) (all (λ x. ltb x (2 * N)) f) h)).value, row_numbers f (and_right (ltb l (2 * N)) (all (λ x. ltb x (2 * N)) f) h))

  -- no literal is written as 0, and none above N
  signed_not_zero : (f : List ℕ) → all (λ x. not (is_zero x)) (map signed f) ≡ true
  unfolding all is_zero signed
  signed_not_zero [] = refl
  signed_not_zero (l ∷ f) = and_both (ap not (ne_eqb (atom l + 1) 0 (λ e. absurd (omega arith)))) (signed_not_zero f)

  signed_small : (f : List ℕ) → all_below (2 * N) f ≡ true → all (λ x. leb x.size N) (map signed f ++ (plain 0 ∷ [])) ≡ true
  unfolding all all_below signed plain
  signed_small [] h = and_both (le-leb 0 N (omega arith)) refl
  signed_small (l ∷ f) h =
      and_both (le-leb (atom l + 1) N (small l (and_left (ltb l (2 * N)) (all (λ x. ltb x (2 * N)) f) h)))
      (signed_small f (and_right (ltb l (2 * N)) (all (λ x. ltb x (2 * N)) f) h))

  abbrev Lows : List (List ℕ) → Type 0
  Lows C = (f : List ℕ) → Memᴰ f C → all_below (2 * N) f ≡ true

  -- the numbers of a set
  set_numbers : (C : List (List ℕ)) → Lows C → map number_in (each row_fields C) ≡ each (λ f. map signed f ++ (plain 0 ∷ [])) C
  unfolding each
  set_numbers [] low = refl
  set_numbers (f ∷ C) low =
      map-append number_in (row_fields f) (each row_fields C)
      ∙ rw (row_numbers f (low f (Memᴰ.head refl)), set_numbers C (λ g m. low g (Memᴰ.tail m)))

  set_right : (C : List (List ℕ)) → Lows C → all is_number (each row_fields C) ≡ true
  unfolding each all
  set_right [] low = refl
  set_right (f ∷ C) low =
      all_append is_number (row_fields f) (each row_fields C)
      ∙ and_both (row_right_lem f (low f (Memᴰ.head refl))) (set_right C (λ g m. low g (Memᴰ.tail m)))

  set_small : (C : List (List ℕ)) → Lows C → all (λ x. leb x.size N) (each (λ f. map signed f ++ (plain 0 ∷ [])) C) ≡ true
  unfolding each all
  set_small [] low = refl
  set_small (f ∷ C) low =
      all_append (λ x. leb x.size N) (map signed f ++ (plain 0 ∷ [])) (each (λ f. map signed f ++ (plain 0 ∷ [])) C)
      ∙ and_both (signed_small f (low f (Memᴰ.head refl))) (set_small C (λ g m. low g (Memᴰ.tail m)))

  set_clauses : (C : List (List ℕ)) → map (map literal_of) (each (λ f. map signed f ∷ []) C) ≡ C
  unfolding each
  set_clauses [] = refl
  set_clauses (f ∷ C) = rw (back f, set_clauses C)
    where
      back : (f : List ℕ) → map literal_of (map signed f) ≡ f
      back [] = refl
      back (l ∷ f) = rw (literal_back l, back f)

  set_length : (C : List (List ℕ)) → length (each (λ f. map signed f ∷ []) C) ≡ length C
  unfolding each
  set_length [] = refl
  set_length (f ∷ C) = ap suc (set_length C)

  -- ---- the text of the set
  module _ (C : List (List ℕ)) (low : Lows C) (rows : length C ≤ most_rows) where
    n_reads : Reads (decimal N) (plain N)
    unfolding plain
    n_reads = decimal_reads N (omega arith)

    k_reads : Reads (decimal (length C)) (plain (length C))
    unfolding plain most_rows
    k_reads = decimal_reads (length C) (omega arith)

    text_words : words_in (dimacs_text N C) ≡ decimal N ∷ (decimal (length C) ∷ each row_fields C)
    unfolding words_in dimacs_text behind_comments line head_bytes blank
    text_words =
        tokens_blank 32 (line (decimal N ∷ decimal (length C) ∷ []) ++ each (λ f. line (row_fields f)) C) refl
        ∙ tokens_line header (each (λ f. line (row_fields f)) C)
        ∙ ap (λ z. decimal N ∷ (decimal (length C) ∷ z)) (tokens_lines row_fields C (λ f m. row_fields_lem f (low f m)))
      where
        header : Fields (decimal N ∷ decimal (length C) ∷ [])
        header = more (number_word (decimal N) n_reads.right) (last (number_word (decimal (length C)) k_reads.right))

    text_headed : headed (dimacs_text N C) ≡ true
    unfolding headed dimacs_text behind_comments line head_bytes blank compare_words is_same
    text_headed = refl

    numbers : List Number
    numbers = each (λ f. map signed f ++ (plain 0 ∷ [])) C

    text_numbers : numbers_in (dimacs_text N C) ≡ plain N ∷ (plain (length C) ∷ numbers)
    unfolding numbers_in numbers
    text_numbers = ap (map number_in) text_words ∙ rw (n_reads.value, k_reads.value, set_numbers C low)

    parts : ended (split is_zero numbers) ≡ each (λ f. map signed f ∷ []) C
    unfolding numbers is_zero plain
    parts = split_each is_zero (map signed) (plain 0) C (λ f m. signed_not_zero f) refl

    whole : all_ended (split is_zero numbers) ≡ true
    unfolding numbers is_zero plain
    whole = split_each_ends is_zero (map signed) (plain 0) C (λ f m. signed_not_zero f) refl

    says : says_clauses N (plain N ∷ (plain (length C) ∷ numbers)) ≡ true
    unfolding says_clauses is_the plain
    says =
        and_both
        (and_both (and_both (eq-eqb N N refl) (eq-eqb (length C) (length (ended (split is_zero numbers))) (sym (ap length parts ∙ set_length C)))) whole)
        (unfold numbers in set_small C low)

    -- the text is of the form
    pub text_form : is_dimacs N (dimacs_text N C) ≡ true
    unfolding is_dimacs all
    text_form =
        and_both
        (and_both text_headed (ap (all is_number) text_words ∙ and_both n_reads.right (and_both k_reads.right (set_right C low))))
        (ap (says_clauses N) text_numbers ∙ says)

    -- it says the clauses of the set
    pub text_clauses : clauses_in (dimacs_text N C) ≡ C
    unfolding clauses_in
    text_clauses = ap (λ ns. map (map literal_of) (ended (split is_zero (drop 2 ns)))) text_numbers ∙ ap (map (map literal_of)) parts ∙ set_clauses C

-- ---- a right clause set
good_fits : (N : ℕ) (f : List ℕ) → GoodClause N width f → fits_row f ≡ true
unfolding fits_row literal_list
good_fits N f g =
    and_both (and_both (some f g.some_literal) (le-leb (length f) width g.most))
    (ascending_apart (map atom f) (and_right (ascending f && all_below (2 * N) f) (ascending (map atom f)) g.list))
  where
    some : (f : List ℕ) → 1 ≤ length f → not (empty f) ≡ true
    some [] h = absurd (omega arith)
    some (l ∷ f) h = unfold empty in refl

-- the text of a right set, read for the same image into at least as many words
pub written_read :
    (w : List ℕ) (t : Task) (C : List (List ℕ)) (target : ℕ) → read_task w ≡ finding t → RightSet t.atoms C → width * length C ≤ target
    → read_dimacs w (dimacs_text t.atoms C) target ≡ finding (record { count = length C; words = clause_words C })
unfolding read_dimacs ask ask_at ◌>>=◌
written_read w t C target read right room =
    rw (
      read,
      text_form t.atoms few C low right.rows,
      text_clauses t.atoms few C low right.rows,
      all_of fits_row C (λ f m. good_fits t.atoms f (right.clauses f m)),
      distinct_in_order C right.order (λ f m. list_ascends t.atoms f (right.clauses f m).list),
      le-leb (length C) most_rows right.rows,
      le-leb (width * length C) target room,
    )
  where
    few : t.atoms ≤ 1024
    few = (read_right w t read).few

    low : (f : List ℕ) → Memᴰ f C → all_below (2 * t.atoms) f ≡ true
    low f m = list_low t.atoms f (right.clauses f m).list

-- ---- both calls
again :
    (w c : List ℕ) (t : Task) (C : List (List ℕ)) (target : ℕ) → read_task w ≡ finding t → RightSet t.atoms C → clause_words C ≡ c
    → length c ≤ target
    → read_dimacs w (dimacs_text t.atoms C) target ≡ finding (record { count = length c / width; words = c })
again w c t C target read right same room =
    written_read w t C target read right (omega (arith, long))
    ∙ ap (λ z. finding (record { count = z; words = clause_words C })) rows
    ∙ ap (λ z. finding (record { count = length c / width; words = z })) same
  where
    long : length c ≡ width * length C
    long = ap length (sym same) ∙ words_length t.atoms width (read_right w t read).few (omega arith) C right.clauses

    wide : 0 < width
    wide = unfold width in omega arith

    rows : length C ≡ length c / width
    rows = sym (ap (λ n. n / width) long ∙ mul-div_cancel_left (length C) {n = width} wide)

-- what is written, read again for the same image into at least as many words, gives the same words and their rows
pub write_read :
    (w c : List ℕ) (room target : ℕ) (x : Written) → write_dimacs w c room ≡ finding x → length c ≤ target
    → read_dimacs w x.words target ≡ finding (record { count = length c / width; words = c })
unfolding write_dimacs ask
write_read w c room target x e enough =
    let q1 = bind_of (read_task w) _ x e in
    let q2 = bind_of (read_clauses q1.0.atoms c) _ x q1.2 in
    let text = dimacs_text q1.0.atoms q2.0 in
    let q3 = bind_of (ask_at 26 0 (leb (length text) room)) _ x q2.2 in
    let r = rows_right_lem q1.0.atoms c q2.0 q2.1 in
    ap (λ z. read_dimacs w z target) (sym (ap (λ z. z.words) (same_finding (record { count = length text; words = text }) x q3.2)))
    ∙ again w c q1.0 q2.0 target q1.1 r.0 r.1 enough
