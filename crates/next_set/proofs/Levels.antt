-- Putting in clauses by rising length gives the undominated ones. Assumes nothing.
use mathlib.Core.Bool.{Bool, true, false}
use mathlib.Core.Logic.{◌⊎◌, inl, inr}
use mathlib.Core.Option.{Option, none, some}
use mathlib.Core.Path.{◌≡◌, refl, subst}
use mathlib.Core.List.Memᴰ
use mathlib.Core.List.{List, [], ◌∷◌, Memᴰ}
use Prim.Native.Nat.{ℕ, suc, ◌≤◌, ◌<◌}
use native.Mathlib.Decide.{dec_lt}
use native.Mathlib.Omega.{arith}
use lib.Dec.{ltb}
use lib.ListN.{length}
use borrow.Author.Tests.{ltb-true, ltb-false}
use Rattle.definitions.specs.Lists.{another}
use Rattle.definitions.specs.Literal.{most_atoms}
use Rattle.definitions.specs.Synthesis.{undominated, insert_clause}
use Rattle.definitions.proofs.LiteralLaws.{list_ascends}
use Rattle.definitions.proofs.OrderLaws.{up, insert_up}
use Rattle.definitions.proofs.SetLaws.{insert_clause_of}
use Rattle.clause.proofs.ClauseLaws.{up_distinct}
use Rattle.clause_set.specs.Put.{blocked, put, put_all}
use Rattle.definitions.proofs.Counting.{Part, part_length}
use Rattle.clause_set.proofs.Parts.{Blocking, blocked_of, blocked_not}
use Rattle.clause_set.proofs.Insertion.{puts_none}
use Rattle.definitions.proofs.Inserted.{Goods, put_self, put_keeps, put_length}
use Rattle.definitions.proofs.Undominated.{least_of, least_in, Below, below_least}

-- the clauses of U, of which those of a set are taken
module _ (N rows : ℕ) (few : N ≤ most_atoms) (U : List (List ℕ)) (good : Goods N U) where
  -- a set under way: only undominated clauses, among them all of at most j literals
  pub record Stage (j : ℕ) (D : List (List ℕ)) : Type 0 where
    pub order : up D ≡ true
    pub least : Part D (undominated U)
    pub lower : (f : List ℕ) → Memᴰ f (undominated U) → length f ≤ j → Memᴰ f D
    pub room : length D ≤ rows

  -- the clauses of 𝓛 are put into D: the undominated ones are there, or there are too many undominated ones
  abbrev pub Grown : ℕ → List (List ℕ) → List (List ℕ) → Option (List (List ℕ)) → Type 0
  Grown j D W none = rows < length (undominated U)
  Grown j D W (some E) = Stage j E × Part D E × ((f : List ℕ) → Memᴰ f W → Memᴰ f (undominated U) → Memᴰ f E)

  module _ (j : ℕ) (D : List (List ℕ)) (s : Stage j D) (f : List ℕ) (mem : Memᴰ f U) (long : length f ≡ suc j) where
    -- a blocked clause is there or dominated
    stays : blocked D f ≡ true → Grown j D (f ∷ []) (some D)
    stays h = (s, λ g m. m, λ g m l. here g (Memᴰ.cases_cons m) l)
      where
        which : (b : Blocking D f) → (b.it ≡ f) ⊎ (length b.it < length f) → Memᴰ f (undominated U) → Memᴰ f D
        which b (inl e) l = subst (λ (g : List ℕ). Memᴰ g D) e b.mem
        which b (inr k) l = absurd ((least_of U f l).1 b.it (least_of U b.it (s.least b.it b.mem)).0 k b.part)

        here : (g : List ℕ) → (g ≡ f) ⊎ Memᴰ g [] → Memᴰ g (undominated U) → Memᴰ g D
        here g (inl e) l =
            let b = blocked_of D f h in
            rw e (which b b.which (subst (λ (g : List ℕ). Memᴰ g (undominated U)) e l))
        here g (inr m) l = absurd (Memᴰ.not-nil m)

    module _ (free : blocked D f ≡ false) where
      no_part : (g : List ℕ) → Memᴰ g D → Part g f → ⊥
      no_part g m p =
          let gg = good g (least_of U g (s.least g m)).0 in
          blocked_not D f g (list_ascends N f (good f mem).list) (list_ascends N g gg.list) gg.some_literal free m p

      -- one that is not blocked is undominated
      is_least : Memᴰ f (undominated U)
      is_least = least_in U f mem (λ g mg l p. bad g p l (below_least U (length g) g mg (omega arith)))
        where
          bad : (g : List ℕ) → Part g f → length g < length f → Below U g → ⊥
          bad g p l b =
              let low = b.low in
              no_part b.it (s.lower b.it b.mem (omega arith)) (λ x m. p x (b.part x m))

      not_there : Memᴰ f D → ⊥
      not_there m = no_part f m (λ x k. k)

      full : ltb (length D) rows ≡ false → rows < length (undominated U)
      full h =
          let c = part_length (another not_there (up_distinct D s.order)) (undominated U) (λ g m. pick g (Memᴰ.cases_cons m)) in
          let d = ltb-false (length D) rows h in
          let l : length (f ∷ D) ≡ suc (length D) = refl in
          omega arith
        where
          pick : (g : List ℕ) → (g ≡ f) ⊎ Memᴰ g D → Memᴰ g (undominated U)
          pick g (inl e) = rw e is_least
          pick g (inr m) = s.least g m

      goes_in : ltb (length D) rows ≡ true → Grown j D (f ∷ []) (some (insert_clause f D))
      goes_in h = (
        record {
          order = insert_up f D s.order;
          least = λ g m. pick g (insert_clause_of f D m);
          lower = λ g m l. put_keeps f D g (s.lower g m l);
          room = (let a = put_length f D in let b = ltb-true (length D) rows h in omega arith);
        },
        put_keeps f D,
        λ g m l. here g (Memᴰ.cases_cons m),
      )
        where
          pick : (g : List ℕ) → (g ≡ f) ⊎ Memᴰ g D → Memᴰ g (undominated U)
          pick g (inl e) = rw e is_least
          pick g (inr m) = s.least g m

          here : (g : List ℕ) → (g ≡ f) ⊎ Memᴰ g [] → Memᴰ g (insert_clause f D)
          here g (inl e) = rw e (put_self N f D few (good f mem) (λ h m. good h (least_of U h (s.least h m)).0))
          here g (inr m) = absurd (Memᴰ.not-nil m)

    put_one : Grown j D (f ∷ []) (put rows f (some D))
    unfolding put
    put_one = go (blocked D f) refl (ltb (length D) rows) refl
      where
        go : (b : Bool) → blocked D f ≡ b → (c : Bool) → ltb (length D) rows ≡ c → Grown j D (f ∷ []) (put rows f (some D))
        go true e c h = rw e (stays e)
        go false e true h = rw (e, h) (goes_in e h)
        go false e false h = rw (e, h) (full e h)

  -- clauses of one length are put in one after the other
  pub puts :
      (j : ℕ) (W D : List (List ℕ)) → Stage j D → ((f : List ℕ) → Memᴰ f W → Memᴰ f U × (length f ≡ suc j))
      → Grown j D W (put_all rows W (some D))
  unfolding put_all
  puts j [] D s h = (s, λ g m. m, λ g m l. absurd (Memᴰ.not-nil m))
  puts j (f ∷ W) D s h =
      go (put rows f (some D)) (put_one j D s f here.0 here.1) (λ E t. puts j W E t (λ g m. h g (Memᴰ.tail m)))
    where
      here : Memᴰ f U × (length f ≡ suc j)
      here = h f (Memᴰ.head refl)

      join : (E : List (List ℕ)) → Grown j D (f ∷ []) (some E) → (q : Option (List (List ℕ))) → Grown j E W q → Grown j D (f ∷ W) q
      join E a none b = b
      join E a (some F) b = (b.0, λ g m. b.1 g (a.1 g m), λ g m l. pick g (Memᴰ.cases_cons m) l)
        where
          pick : (g : List ℕ) → (g ≡ f) ⊎ Memᴰ g W → Memᴰ g (undominated U) → Memᴰ g F
          pick g (inl e) l = b.1 g (a.2 g (Memᴰ.head e) l)
          pick g (inr m) l = b.2 g m l

      go :
          (q : Option (List (List ℕ))) → Grown j D (f ∷ []) q → ((E : List (List ℕ)) → Stage j E → Grown j E W (put_all rows W (some E)))
          → Grown j D (f ∷ W) (put_all rows W q)
      go none a rec = rw (puts_none rows W) a
      go (some E) a rec = join E a (put_all rows W (some E)) (rec E a.0)

  -- all undominated clauses of one literal more are there
  pub next_stage :
      (j : ℕ) (E : List (List ℕ)) → Stage j E
      → ((f : List ℕ) → Memᴰ f (undominated U) → length f ≡ suc j → Memᴰ f E) → Stage (suc j) E
  next_stage j E s h =
      record {
        order = s.order;
        least = s.least;
        lower = λ f m l. go f m l (dec_lt j (length f));
        room = s.room;
      }
    where
      go : (f : List ℕ) → Memᴰ f (undominated U) → length f ≤ suc j → Dec (j < length f) → Memᴰ f E
      go f m l (yes k) = h f m (omega arith)
      go f m l (no k) = s.lower f m (omega arith)
