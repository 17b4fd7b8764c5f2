-- The clauses of a text read one by one, their rows stored. Assumes nothing.
use mathlib.Core.Bool.{true, false}
use mathlib.Core.Path.{◌≡◌, refl, sym, ◌∙◌, ap, subst}
use mathlib.Core.List.{List, [], ◌∷◌, ◌++◌, map, map-append, append_assoc, append-nil}
use Rattle.std.proofs.Common.{Option, Some, None, ok_or, Result, Ok, Err}
use Prim.Native.Nat.{ℕ, ◌≤◌, ◌<◌}
use native.Mathlib.Nat.{mul-zero}
use native.Mathlib.Omega.{arith}
use lib.ListN.{length, take}
use Rattle.definitions.specs.Lists.{all}
use Rattle.definitions.specs.Literal.{most_atoms}
use Rattle.definitions.specs.Clauses.{width, most_rows, clause_of, GoodClause}
use Rattle.definitions.specs.Synthesis.{insert_all}
use Rattle.definitions.specs.Dimacs.{fits_row, sorted, distinct}
use Rattle.definitions.proofs.ListLaws.{and_both}
use Rattle.definitions.proofs.ListLaws.{all_append}
use Rattle.dimacs_form.proofs.PlaceLaws.{over_at}
use Rattle.definitions.proofs.DimacsRows.{good_sorted}
use Rattle.dimacs_rows.specs.Clauses.{clauses_said}
use Rattle.dimacs_rows.proofs.Clauses.{none_said}
use Rattle.definitions.proofs.Accepts.{row_length}
use Rattle.clause.specs.Rows.{clauses_of}
use Rattle.clause.proofs.RowLaws.{clauses_none}
use Rattle.definitions.proofs.LiteralLaws.{list_low}
use Rattle.clause.proofs.ClauseLaws.{row_back, good_right}
use Rattle.clause_set.specs.Held.{ClauseRow}
use Rattle.dimacs_rows.specs.Reading.{clauses_at, Clauses, RowRead}
use Rattle.dimacs_rows.specs.Rows.{Fit, Makes, Stores}
use Rattle.dimacs_rows.specs.Collected.{Set, Comes, Finished, ClausesCollected}
use Rattle.dimacs_rows.specs.declared.Unread.{Unread}
use Rattle.dimacs_rows.specs.declared.Unread.TheVariants.{Unfit, Full}
use Rattle.dimacs_rows.proofs.RowsLaws.{none_rows}

-- the clauses from one place to another are read, and their rows stored
pub record Collecting (text : List ℕ) (from at : ℕ) (w : List ℕ) (stored : Option ℕ) : Type 0 where
  pub read : List (List ℕ)
  pub clauses : clauses_at text from ≡ read ++ clauses_at text at
  pub fits : all fits_row read ≡ true
  pub fit : Fit w stored
  pub makes : Makes w stored (map sorted read)
  pub behind : Clauses text at

width_some : 0 < width
unfolding width
width_some = omega arith

pub collecting_start : (text : List ℕ) (from : ℕ) (w : List ℕ) → Clauses text from → Collecting text from from w (Some 0)
unfolding all
collecting_start text from w c =
    record {
      read = [];
      clauses = refl;
      fits = refl;
      fit = none_rows w;
      makes = ap (λ n. insert_all (clauses_of (take n w)) []) (mul-zero width) ∙ ap (λ z. insert_all z []) (clauses_none [] width_some);
      behind = c;
    }

-- why a clause was not read
pub unread_is : {e : Unread} (r : Option ℕ) → ◌≡◌ {A = Result ℕ Unread} (Err e) (ok_or r Unfit) → e ≡ Unfit
unread_is r h = ap reason h ∙ go r
  where
    reason : Result ℕ Unread → Unread
    reason (Ok n) = Unfit
    reason (Err e) = e

    go : (r : Option ℕ) → reason (ok_or r Unfit) ≡ Unfit
    go None = refl
    go (Some n) = refl

-- the row that was read is right
module _ (text : List ℕ) (at : ℕ) (row : List ℕ) (next : ℕ) (r : RowRead text at row next) where
  row_good : GoodClause most_atoms width (sorted r.clause)
  row_good = good_sorted most_atoms r.clause r.fits r.low

  pub row_right_lem : ClauseRow row
  row_right_lem =
      record {
        wide = rw r.row (row_length (sorted r.clause) row_good.most);
        right = rw r.row (good_right most_atoms (sorted r.clause) (omega arith) row_good);
      }

  row_clause : clause_of row ≡ sorted r.clause
  row_clause =
      ap clause_of r.row ∙ row_back most_atoms (sorted r.clause) (omega arith) (list_low most_atoms (sorted r.clause) row_good.list)

  module _ (from : ℕ) (w : List ℕ) (stored : Option ℕ) (c : Collecting text from at w stored) where
    pub collecting_next : (new : List ℕ) (s : Option ℕ) → Stores row w stored new s → Collecting text from next new s
    unfolding all
    collecting_next new s x =
        record {
          read = c.read ++ (r.clause ∷ []);
          clauses = c.clauses ∙ ap (λ z. c.read ++ z) r.here ∙ sym (append_assoc c.read (r.clause ∷ []) (clauses_at text next));
          fits = all_append fits_row c.read (r.clause ∷ []) ∙ and_both c.fits (and_both r.fits refl);
          fit = x.fit;
          makes = subst (Makes new s) more (x.makes (map sorted c.read) c.makes);
          behind = r.behind;
        }
      where
        more : map sorted c.read ++ (clause_of row ∷ []) ≡ map sorted (c.read ++ (r.clause ∷ []))
        more = ap (λ z. map sorted c.read ++ (z ∷ [])) row_clause ∙ sym (map-append sorted c.read (r.clause ∷ []))

module _ (text : List ℕ) (from at : ℕ) (w : List ℕ) (stored : Option ℕ) (c : Collecting text from at w stored) where
  pub collecting_unfit : all fits_row (clauses_at text at) ≡ false → all fits_row (clauses_at text from) ≡ false
  collecting_unfit h = ap (all fits_row) c.clauses ∙ all_append fits_row c.read (clauses_at text at) ∙ rw (c.fits, h)

  pub collecting_end :
      (new : List ℕ) (r : Option ℕ) → length text ≤ at → Finished w stored new r → ClausesCollected text from new (ok_or r Full)
  unfolding distinct
  collecting_end new r h f = go r (f (map sorted c.read) c.makes)
    where
      all_read : c.read ≡ clauses_at text from
      all_read =
          sym (append-nil c.read)
          ∙ ap (λ z. c.read ++ z) (sym (ap clauses_said (over_at text at h) ∙ none_said))
          ∙ sym c.clauses

      all_fit : all fits_row (clauses_at text from) ≡ true
      all_fit = ap (all fits_row) (sym all_read) ∙ c.fits

      go : (r : Option ℕ) → Comes (insert_all (map sorted c.read) []) new r → ClausesCollected text from new (ok_or r Full)
      go None x = (all_fit, subst (λ (D : List (List ℕ)). most_rows < length (insert_all (map sorted D) [])) all_read x)
      go (Some k) x = (all_fit, subst (λ (D : List (List ℕ)). Set (insert_all (map sorted D) []) new k) all_read x)
