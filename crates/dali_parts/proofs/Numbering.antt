use Rattle.std.proofs.Common.{◌≡◌, ◌≢◌, ◌⊎◌, inl, inr, ℕ, zero, suc, ◌+◌, ◌<◌, ◌≤◌, pos, Bool, true, false, eqb, Option, Some, None, is_some, List, [], ◌∷◌, ◌++◌, length, get_or, set, if◌then◌else◌, refl, ap, sym, ◌∙◌, subst, arith}
use Rattle.std.specs.List.{All, Any, AllPairs, Contains}
use Rattle.std.proofs.Math.ListN.{replicate}
use Rattle.std.proofs.lemmas.Bool.{cases_eq, cases_lt, cases_Bool}
use Rattle.std.proofs.lemmas.Bool.Decides.{eqb_tells}
use Rattle.std.proofs.lemmas.List.{append-nil, length-append, length-replicate, get_or-replicate, get_or_past, get_or_append_left, get_or_at, get_or_default, get_or-set_same, get_or-set_other}
use Rattle.std.proofs.lemmas.List.Elements.{All-nil, All-push, All-weaker, Contains-push, Contains-push_cases, Contains-append_left}
use Rattle.std.proofs.lemmas.List.Quantifiers.{all_pairs_push}
use Rattle.dali_problem.specs.Clearing.{Clearing, effect}
use Rattle.dali_problem.specs.Feasible.{ArePlaces}
use Rattle.dali_restrict.proofs.Below.{below_range, below_rising, below_has, has_below}
use Rattle.dali_parts.specs.Finest.{Share, Linked, IsClass, AreFinest}
use Rattle.dali_parts.specs.Flood.{class_at, was_seen, IsFlooding, Grows, AreNumbered, is_of, members_below, part_at}
use Rattle.dali_parts.proofs.Links.{along}
use Rattle.dali_parts.proofs.Flooding.{grows_some, grows_told}

none_some : (c : ℕ) → None ≡ Some c → ⊥
none_some c is = cc

true_false : true ≡ false → ⊥
true_false is = cc

same_some : (c d : ℕ) → Some c ≡ Some d → c ≡ d
same_some c d is = cc

-- at first no place has a class
no_class : (n j : ℕ) → class_at (replicate n None) j ≡ None
no_class n j = elim (cases_lt j n) as (λ _. class_at (replicate n None) j ≡ None) [
  | inl within ↦ get_or-replicate n j None None within
  | inr past ↦ get_or_past (replicate n None) j None (let none : Option ℕ = None in omega (arith, past, length-replicate n none))
]

no_line : (n l : ℕ) → was_seen (replicate n false) l ≡ false
no_line n l = elim (cases_lt l n) as (λ _. was_seen (replicate n false) l ≡ false) [
  | inl within ↦ get_or-replicate n l false false within
  | inr past ↦ get_or_past (replicate n false) l false (omega (arith, length-replicate n false))
]

pub numbered_start : (p : Clearing) (classes : List (Option ℕ)) (seen : List Bool) → classes ≡ replicate (length p.items) None → seen ≡ replicate (length p.lines) false →
    AreNumbered p classes seen 0 0
numbered_start p classes seen is_none is_false =
    let none : (j : ℕ) → class_at classes j ≡ None = λ j. ap (λ (cs : List (Option ℕ)). class_at cs j) is_none ∙ no_class (length p.items) j in
    let off : (l : ℕ) → was_seen seen l ≡ false = λ l. ap (λ (s : List Bool). was_seen s l) is_false ∙ no_line (length p.lines) l in
    record {
      flooding = record {
        size = ap length is_none ∙ length-replicate (length p.items) None;
        lines = ap length is_false ∙ length-replicate (length p.lines) false;
        linked = λ i j c one two. absurd (none_some c (sym (none i) ∙ one));
        same = λ l i j told one two. absurd (true_false (sym told ∙ off l));
        done = λ j c l is changed. absurd (none_some c (sym (none j) ∙ is));
        waits = λ j there. absurd (omega (arith, there.1));
      };
      below = λ j below. absurd (omega (arith, below));
      firsts = [];
      size = refl;
      rising = λ i j d before within. absurd (omega (arith, within));
      early = All-nil (λ (j : ℕ). j < 0);
      own = λ c below. absurd (omega (arith, below));
      least = λ j c is. absurd (none_some c (sym (none j) ∙ is));
    }

-- a place that has a class, and one that gets the next
pub numbered_had : (p : Clearing) (classes : List (Option ℕ)) (seen : List Bool) (n count : ℕ) → is_some (class_at classes n) ≡ true → AreNumbered p classes seen n count →
    AreNumbered p classes seen (n + 1) count
numbered_had p classes seen n count some numbered = record {
  flooding = numbered.flooding;
  below = (λ j below. elim (cases_eq j n) as (λ _. is_some (class_at classes j) ≡ true) [
    | inl same ↦ ap (λ k. is_some (class_at classes k)) same ∙ some
    | inr other ↦ numbered.below j (omega (arith, below, other))
  ]);
  firsts = numbered.firsts;
  size = numbered.size;
  rising = numbered.rising;
  early = All-weaker (λ (j : ℕ). j < n) (λ (j : ℕ). j < n + 1) (λ j less. omega (arith, less)) numbered.firsts numbered.early;
  own = numbered.own;
  least = numbered.least;
}

pub numbered_more : (p : Clearing) (c0 c1 : List (Option ℕ)) (s0 s1 : List Bool) (n count : ℕ) → class_at c0 n ≡ None → class_at c1 n ≡ Some count →
    Grows count c0 c1 → IsFlooding p 0 c1 s1 [] → AreNumbered p c0 s0 n count → AreNumbered p c1 s1 (n + 1) (count + 1)
numbered_more p c0 c1 s0 s1 n count none got grows flooding old = record {
  flooding = flooding;
  below = (λ j below. elim (cases_eq j n) as (λ _. is_some (class_at c1 j) ≡ true) [
    | inl same ↦ ap (λ k. is_some (class_at c1 k)) same ∙ ap is_some got
    | inr other ↦ grows_told count c0 c1 j grows (old.below j (omega (arith, below, other)))
  ]);
  firsts = old.firsts ++ n ∷ [];
  size = length-append old.firsts (n ∷ []) ∙ ap (λ k. k + 1) old.size;
  rising = all_pairs_push (λ (i j : ℕ). i < j) old.firsts n old.rising (λ k d below. old.early k d below);
  early = All-push (λ (j : ℕ). j < n + 1) old.firsts n (All-weaker (λ (j : ℕ). j < n) (λ (j : ℕ). j < n + 1) (λ j less. omega (arith, less)) old.firsts old.early) (omega arith);
  own = (λ c below. elim (cases_eq c count) as (λ _. class_at c1 (get_or (old.firsts ++ n ∷ []) c 0) ≡ Some c) [
    | inl last ↦ ap (class_at c1) (at_last c last) ∙ got ∙ ap Some (sym last)
    | inr other ↦
        let less : c < count = omega (arith, below, other) in
        ap (class_at c1) (at_before c less) ∙ grows_some count c0 c1 (get_or old.firsts c 0) c grows (old.own c less)
  ]);
  least = (λ j c is. elim (grows.each j) as (λ _. (c < count + 1) × (get_or (old.firsts ++ n ∷ []) c 0 < j + 1)) [
    | inl same ↦
        let was = old.least j c (sym same ∙ is) in
        (omega (arith, was.0), subst (λ k. k < j + 1) (sym (at_before c was.0)) was.1)
    | inr new_one ↦
        let last : c ≡ count = same_some c count (sym is ∙ new_one.1) in
        (omega (arith, last), subst (λ k. k < j + 1) (sym (at_last c last)) (late j new_one.0))
  ]);
}
  where
    at_before : (c : ℕ) → c < count → get_or (old.firsts ++ n ∷ []) c 0 ≡ get_or old.firsts c 0
    at_before c less = get_or_append_left old.firsts (n ∷ []) 0 c (omega (arith, less, old.size))

    at_last : (c : ℕ) → c ≡ count → get_or (old.firsts ++ n ∷ []) c 0 ≡ n
    at_last c last = get_or_at old.firsts n [] 0 c (old.size ∙ sym last)

    late : (j : ℕ) → class_at c0 j ≡ None → n < j + 1
    late j is = elim (cases_lt j n) as (λ _. n < j + 1) [
      | inl before ↦ absurd (true_false (sym (old.below j before) ∙ ap is_some is))
      | inr past ↦ omega (arith, past)
    ]

-- no place has the next number yet
pub numbered_fresh : (p : Clearing) (classes : List (Option ℕ)) (seen : List Bool) (n count : ℕ) → AreNumbered p classes seen n count → (j : ℕ) → class_at classes j ≢ Some count
numbered_fresh p classes seen n count numbered j is = omega (arith, (numbered.least j count is).0)

is_of_some : (c : ℕ) (o : Option ℕ) → is_of c o ≡ true → o ≡ Some c
is_of_some c None told = absurd (true_false (sym told))
is_of_some c (Some d) told = elim (eqb_tells d c) as (λ _. Some d ≡ Some c) [
  | inl same ↦ ap Some same.1
  | inr other ↦ absurd (true_false (sym told ∙ other.0))
]

some_is_of : (c : ℕ) (o : Option ℕ) → o ≡ Some c → is_of c o ≡ true
some_is_of c o is = ap (is_of c) is ∙ self c
  where
    self : (c : ℕ) → eqb c c ≡ true
    self c = elim (eqb_tells c c) as (λ _. eqb c c ≡ true) [
      | inl same ↦ same.0
      | inr other ↦ absurd (other.1 refl)
    ]

-- one part of one place more
pub put_in_part : (parts : List (List ℕ)) (part : List ℕ) (place d c : ℕ) → d < length parts → part ≡ part_at parts d ++ place ∷ [] →
    part_at (set parts d part) c ≡ part_at parts c ++ (if is_of c (Some d) then place ∷ [] else [])
put_in_part parts part place d c within new = elim (eqb_tells d c) as (λ _. part_at (set parts d part) c ≡ part_at parts c ++ (if is_of c (Some d) then place ∷ [] else [])) [
  | inl same ↦
      ap (part_at (set parts d part)) (sym same.1) ∙ get_or-set_same parts d part [] within ∙ new ∙ ap (λ k. part_at parts k ++ place ∷ []) same.1
      ∙ ap (λ (b : Bool). part_at parts c ++ (if b then place ∷ [] else [])) (sym same.0)
  | inr other ↦
      get_or-set_other parts d c part [] (λ same. other.1 (sym same)) ∙ sym (append-nil (part_at parts c))
      ∙ ap (λ (b : Bool). part_at parts c ++ (if b then place ∷ [] else [])) (sym other.0)
]

pub put_none : (parts : List (List ℕ)) (place c : ℕ) → part_at parts c ≡ part_at parts c ++ (if is_of c None then place ∷ [] else [])
put_none parts place c = sym (append-nil (part_at parts c))

pub no_part : (n c : ℕ) → part_at (replicate n []) c ≡ []
no_part n c = elim (cases_lt c n) as (λ _. part_at (replicate n []) c ≡ []) [
  | inl within ↦ get_or-replicate n c [] [] within
  | inr past ↦ get_or_past (replicate n []) c [] (let none : List ℕ = [] in omega (arith, past, length-replicate n none))
]

-- the classes by number are the finest parts
pub numbered_finest : (p : Clearing) (classes : List (Option ℕ)) (seen : List Bool) (count : ℕ) (parts : List (List ℕ)) → AreNumbered p classes seen (length p.items) count →
    length parts ≡ count → ((c : ℕ) → c < count → part_at parts c ≡ members_below classes c (length p.items)) → AreFinest p parts
numbered_finest p classes seen count parts numbered size are = record {
  each = (λ k d below. subst (IsClass p) (sym (part_is k d below)) (class_is k (omega (arith, below, size))));
  covered = (λ j within.
      let has = some_of (class_at classes j) (numbered.below j within) in
      let less = (numbered.least j has.0 has.1).0 in
      let part : List ℕ = members_below classes has.0 n in
      (has.0, part, omega (arith, less, size), part_is has.0 part (omega (arith, less, size)), member j has.0 has.1));
  order = (λ i j d before within.
      let less_i : i < count = omega (arith, before, within, size) in
      let less_j : j < count = omega (arith, within, size) in
      let first_i : get_or (get_or parts i d) 0 0 ≡ get_or numbered.firsts i 0 = ap (λ (xs : List ℕ). get_or xs 0 0) (part_is i d (omega (arith, before, within))) ∙ first_is i less_i in
      let first_j : get_or (get_or parts j d) 0 0 ≡ get_or numbered.firsts j 0 = ap (λ (xs : List ℕ). get_or xs 0 0) (part_is j d within) ∙ first_is j less_j in
      omega (arith, first_i, first_j, numbered.rising i j 0 before (omega (arith, less_j, numbered.size))));
}
  where
    n : ℕ
    n = length p.items

    some_of : (o : Option ℕ) → is_some o ≡ true → (c : ℕ) × (o ≡ Some c)
    some_of None told = absurd (true_false (sym told))
    some_of (Some c) told = (c, refl)

    part_is : (k : ℕ) (d : List ℕ) → k < length parts → get_or parts k d ≡ members_below classes k n
    part_is k d below = get_or_default parts k d [] below ∙ are k (omega (arith, below, size))

    in_range : (j c : ℕ) → class_at classes j ≡ Some c → j < n
    in_range j c is = elim (cases_lt j n) as (λ _. j < n) [
      | inl within ↦ within
      | inr past ↦ absurd (none_some c (sym (get_or_past classes j None (omega (arith, past, numbered.flooding.size))) ∙ is))
    ]

    member : (j c : ℕ) → class_at classes j ≡ Some c → Contains (members_below classes c n) j
    member j c is = has_below (λ k. is_of c (class_at classes k)) n j (in_range j c is) (some_is_of c (class_at classes j) is)

    class_of : (j c : ℕ) → Contains (members_below classes c n) j → class_at classes j ≡ Some c
    class_of j c there = is_of_some c (class_at classes j) (below_has (λ k. is_of c (class_at classes k)) n j there)

    some_members : (c : ℕ) → c < count → 0 < length (members_below classes c n)
    some_members c below = omega (arith, (member (get_or numbered.firsts c 0) c (numbered.own c below)).1)

    rises : (c k : ℕ) → k < length (members_below classes c n) → get_or (members_below classes c n) 0 0 ≤ get_or (members_below classes c n) k 0
    rises c zero below = omega arith
    rises c (suc k) below =
        let less = below_rising (λ j. is_of c (class_at classes j)) n 0 (suc k) 0 (omega arith) below in
        omega (arith, less)

    first_is : (c : ℕ) → c < count → get_or (members_below classes c n) 0 0 ≡ get_or numbered.firsts c 0
    first_is c below =
        let some = some_members c below in
        let there = member (get_or numbered.firsts c 0) c (numbered.own c below) in
        let at : get_or (members_below classes c n) there.0 0 ≡ get_or numbered.firsts c 0 =
        get_or_default (members_below classes c n) there.0 0 (get_or numbered.firsts c 0) there.1 ∙ there.2 in
        let first = class_of (get_or (members_below classes c n) 0 0) c (0, some, get_or_default (members_below classes c n) 0 (get_or (members_below classes c n) 0 0) 0 some) in
        let least = (numbered.least (get_or (members_below classes c n) 0 0) c first).1 in
        let up : get_or (members_below classes c n) 0 0 ≤ get_or (members_below classes c n) there.0 0 = rises c there.0 there.1 in
        omega (arith, at, least, up)

    passes : (k a b : ℕ) → Share p a b → class_at classes a ≡ Some k → class_at classes b ≡ Some k
    passes k a b share is = elim (numbered.flooding.done a k share.line is share.first) as (λ _. class_at classes b ≡ Some k) [
      | inl told ↦ sym (numbered.flooding.same share.line a b told share.first share.second).1 ∙ is
      | inr waits ↦ absurd (omega (arith, waits.1))
    ]

    class_is : (k : ℕ) → k < count → IsClass p (members_below classes k n)
    class_is k below = record {
      places = record { rising = below_rising (λ j. is_of k (class_at classes j)) n; in_range = below_range (λ j. is_of k (class_at classes j)) n };
      some = some_members k below;
      linked = λ i j one two. numbered.flooding.linked i j k (class_of i k one) (class_of j k two);
      whole = λ i j there linked. member j k (along p (λ a. class_at classes a ≡ Some k) i j linked.over (passes k) linked.path (class_of i k there));
    }
