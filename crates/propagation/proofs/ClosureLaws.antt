-- The closure is the least set that holds the literals and is closed under the clauses, and what follows for callers. Assumes nothing.
use mathlib.Core.Path.{◌≡◌, refl, sym, ◌∙◌, ap}
use mathlib.Core.Bool.{Bool, true, false, ◌||◌}
use mathlib.Core.Logic.{◌⊎◌, inl, inr, ⊎_elim}
use mathlib.Core.List.Memᴰ
use mathlib.Core.List.{List, ◌++◌, map, Memᴰ}
use Prim.Native.Nat.{ℕ, zero, suc, ◌+◌, ◌*◌, ◌≤◌, ◌<◌}
use native.Mathlib.Omega.{arith}
use lib.Dec.{ltb}
use lib.ListN.{length, get_or}
use lib.Seq.{ext_get_or}
use borrow.Author.Tests.{ltb-true, lt-ltb}
use Rattle.definitions.specs.Lists.{any, keep, range, below, member}
use Rattle.definitions.specs.Literal.{complement}
use Rattle.definitions.specs.Closure.{has, bit, bits_of, forces, grow, grown, closure, contradictory}
use Rattle.definitions.proofs.ListLaws.{decide, never, member_in, member_of, keep_in, keep_of, table_at, table_length}
use Rattle.definitions.proofs.EncodeLaws.{same_bool_lem}
use Rattle.definitions.proofs.ClosureLeast.{closure_fixed, closure_closed, closure_holds, closure_least}
use Rattle.definitions.proofs.Walks.{below_in}
use Rattle.propagation.specs.Walk.{In, Part, ClosedUnder, Clash}
use Rattle.propagation.proofs.Sets.{in_below, byte_in, byte_out, forces_in, clash_of, clash_any}

-- ---- only the literals below 2N count
range_same : (f g : ℕ → ℕ) (start n : ℕ) → ((l : ℕ) → l < start + n → f l ≡ g l) → map f (range start n) ≡ map g (range start n)
unfolding range
range_same f g start zero h = refl
range_same f g start (suc n) h =
    let a : f start ≡ g start = h start (omega arith) in
    let b : map f (range (suc start) n) ≡ map g (range (suc start) n) = range_same f g (suc start) n (λ l k. h l (let z = k in omega arith)) in
    cc

-- K holds the literals of the list, is closed under the clauses, and lies in every set that does so
pub record Least (N : ℕ) (C : List (List ℕ)) (ls K : List ℕ) : Type 0 where
  pub holds : (l : ℕ) → l < 2 * N → member l ls ≡ true → In K l
  pub closed : ClosedUnder C K
  pub least : (T : List ℕ) → ((l : ℕ) → l < 2 * N → member l ls ≡ true → In T l) → ClosedUnder C T → Part K T

module _ (N : ℕ) (C : List (List ℕ)) where
  pub closure_same : (a b : List ℕ) → ((l : ℕ) → l < 2 * N → member l a ≡ member l b) → closure N C a ≡ closure N C b
  unfolding closure bits_of below
  closure_same a b h =
      ap (grown N C (2 * N)) (range_same (λ l. bit (member l a)) (λ l. bit (member l b)) 0 (2 * N) (λ l k. ap bit (h l (let z = k in omega arith))))

  -- the literals of a list that lie below 2N
  low : List ℕ → List ℕ
  low ls = keep (λ l. ltb l (2 * N)) ls

  low_in : (ls : List ℕ) (l : ℕ) → l < 2 * N → member l (low ls) ≡ member l ls
  unfolding low
  low_in ls l h =
      same_bool_lem (member l (low ls)) (member l ls)
      (λ m. member_in (keep_of (λ l. ltb l (2 * N)) ls (member_of l (low ls) m)).0)
      (λ m. member_in (keep_in (λ l. ltb l (2 * N)) (member_of l ls m) (lt-ltb l (2 * N) h)))

  -- the closure lies in every closed set that holds the literals
  pub closure_lowest : (ls T : List ℕ) → ((l : ℕ) → l < 2 * N → member l ls ≡ true → In T l) → ClosedUnder C T → Part (closure N C ls) T
  unfolding low
  closure_lowest ls T holds closed l e =
      closure_least N C (low ls) T (λ x m. low_holds x (keep_of (λ l. ltb l (2 * N)) ls (member_of x (low ls) m))) closed l
      (rw (closure_same (low ls) ls (low_in ls)) e)
    where
      low_holds : (x : ℕ) → Memᴰ x ls × (ltb x (2 * N) ≡ true) → In T x
      low_holds x p = holds x (ltb-true x (2 * N) p.1) (member_in p.0)

  pub closure_length : (ls : List ℕ) → length (closure N C ls) ≡ 2 * N
  unfolding grow
  closure_length ls =
      let K = closure N C ls in
      ap length (sym (closure_fixed N C ls)) ∙ table_length (λ l. bit (has K l || any (forces K l) C)) (2 * N)

  bit_most : (b : Bool) → bit b ≤ 1
  unfolding bit
  bit_most true = omega arith
  bit_most false = omega arith

  closure_bits : (ls : List ℕ) (l : ℕ) → l < 2 * N → get_or (closure N C ls) l 0 ≤ 1
  unfolding grow
  closure_bits ls l h =
      let K = closure N C ls in
      let e : get_or K l 0 ≡ bit (has K l || any (forces K l) C) =
      ap (λ (S : List ℕ). get_or S l 0) (sym (closure_fixed N C ls)) ∙ table_at (λ l. bit (has K l || any (forces K l) C)) (2 * N) l h in
      rw e (bit_most (has K l || any (forces K l) C))

  -- closures with the same literals are equal
  pub closure_ext : (a b : List ℕ) → Part (closure N C a) (closure N C b) → Part (closure N C b) (closure N C a) → closure N C a ≡ closure N C b
  closure_ext a b p q =
      ext_get_or 0 (closure N C a) (closure N C b) (closure_length a ∙ sym (closure_length b))
      (λ i h. same i (rw (closure_length a) at h) (decide (has (closure N C a) i)) (decide (has (closure N C b) i)))
    where
      same :
          (i : ℕ) → i < 2 * N → (has (closure N C a) i ≡ true) ⊎ (has (closure N C a) i ≡ false)
          → (has (closure N C b) i ≡ true) ⊎ (has (closure N C b) i ≡ false) → get_or (closure N C a) i 0 ≡ get_or (closure N C b) i 0
      same i h (inl x) y = byte_in (closure N C a) i x ∙ sym (byte_in (closure N C b) i (p i x))
      same i h (inr x) (inl y) = never (q i y) x
      same i h (inr x) (inr y) = omega (arith, closure_bits a i h, closure_bits b i h, byte_out (closure N C a) i x, byte_out (closure N C b) i y)

  -- a literal and its complement
  pub clash_contradictory : (ls : List ℕ) → Clash (closure N C ls) → contradictory N (closure N C ls) ≡ true
  clash_contradictory ls c = clash_any N (closure N C ls) c (rw (closure_length ls) at (in_below (closure N C ls) c.it c.here))

  -- the literals of a set, as a list
  unfoldable pub elements : List ℕ → List ℕ
  elements S = keep (has S) (below (2 * N))

  element_of : (S : List ℕ) (l : ℕ) → Memᴰ l (elements S) → In S l
  unfolding elements
  element_of S l m = (keep_of (has S) (below (2 * N)) m).1

  element_in : (S : List ℕ) (l : ℕ) → l < 2 * N → In S l → Memᴰ l (elements S)
  unfolding elements
  element_in S l h p = keep_in (has S) (below_in (2 * N) l h) p

  module _ (within : (f : List ℕ) → Memᴰ f C → (l : ℕ) → Memᴰ l f → l < 2 * N) where
    -- it is closed
    pub closure_under : (ls : List ℕ) → ClosedUnder C (closure N C ls)
    closure_under ls f m l e = closure_closed N C ls f m l (within f m l (forces_in (closure N C ls) l f e)) e

    -- more literals, more in the closure
    pub closure_mono : (a b : List ℕ) → ((l : ℕ) → l < 2 * N → member l a ≡ true → member l b ≡ true) → Part (closure N C a) (closure N C b)
    closure_mono a b h = closure_lowest a (closure N C b) (λ l k m. closure_holds N C b l k (h l k m)) (closure_under b)

    -- closing again after adding literals equals closing once from both
    pub closure_more : (a b : List ℕ) → closure N C (elements (closure N C a) ++ b) ≡ closure N C (a ++ b)
    closure_more a b = closure_ext (elements K ++ b) (a ++ b) to from
      where
        K : List ℕ
        K = closure N C a

        first : (l : ℕ) → Memᴰ l (elements K) → In (closure N C (a ++ b)) l
        first l m = closure_mono a (a ++ b) (λ x k z. member_in (Memᴰ.append_left b (member_of x a z))) l (element_of K l m)

        to : Part (closure N C (elements K ++ b)) (closure N C (a ++ b))
        to =
            closure_lowest (elements K ++ b) (closure N C (a ++ b))
            (λ l k m.
            ⊎_elim (first l) (λ z. closure_holds N C (a ++ b) l k (member_in (Memᴰ.append_right a z)))
            (Memᴰ.append_cases (elements K) (member_of l (elements K ++ b) m)))
            (closure_under (a ++ b))

        given : (l : ℕ) → l < 2 * N → Memᴰ l a ⊎ Memᴰ l b → In (closure N C (elements K ++ b)) l
        given l k (inl z) =
            let held = closure_holds N C a l k (member_in z) in
            closure_holds N C (elements K ++ b) l k (member_in (Memᴰ.append_left b (element_in K l k held)))
        given l k (inr z) = closure_holds N C (elements K ++ b) l k (member_in (Memᴰ.append_right (elements K) z))

        from : Part (closure N C (a ++ b)) (closure N C (elements K ++ b))
        from =
            closure_lowest (a ++ b) (closure N C (elements K ++ b))
            (λ l k m. given l k (Memᴰ.append_cases a (member_of l (a ++ b) m)))
            (closure_under (elements K ++ b))

    -- a contradiction stays
    pub contradictory_more : (a b : List ℕ) → contradictory N (closure N C a) ≡ true → contradictory N (closure N C (a ++ b)) ≡ true
    contradictory_more a b e =
        let c = clash_of N (closure N C a) e in
        let up = closure_mono a (a ++ b) (λ x k z. member_in (Memᴰ.append_left b (member_of x a z))) in
        clash_contradictory (a ++ b) (record { it = c.it; here = up c.it c.here; there = up (complement c.it) c.there })

    -- "the closure is the least set holding L and, for each clause all of whose literals but one have their complement in it, that one"
    pub closure_is_least : (ls : List ℕ) → Least N C ls (closure N C ls)
    closure_is_least ls = record { holds = closure_holds N C ls; closed = closure_under ls; least = closure_lowest ls }
