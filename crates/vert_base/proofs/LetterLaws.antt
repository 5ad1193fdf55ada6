-- A list of messages in the order of their names is a finite map.
use Rattle.std.proofs.Common.{◌≡◌, refl, ◌≤◌, ◌∙◌, ℕ, suc, Bool, true, false, List, [], ◌∷◌, length, ap, sym, subst, arith}
use Rattle.std.specs.Prelude.{◌==◌, ◌&&◌, if◌then◌else◌, Option, Some, None}
use Rattle.std.specs.List.{AllByRecursion}
use Rattle.vert_base.specs.declared.message.Name.{Name}
use Rattle.vert_base.specs.declared.message.NameKind.{NameKind}
use Rattle.vert_base.specs.declared.message.NameKind.TheVariants.{Refresh, Dep, Update, Push, Tally, Verdict}
use Rattle.vert_base.specs.Names.{kind_place, numbers_of, is_before, same_name, same_numbers}
use Rattle.vert_base.specs.Letters.{Letter, found, placed, without, Ascends, IsMissing, NamesAreTheirNumbers, PlacedIsFound, SameLetters, TakenIsGone}
use Rattle.vert_base.proofs.NameOrder.{apart, apart_back, total, along}

-- every one is behind x
abbrev pub Behind : Name → List Letter → Type 0
Behind x ms = AllByRecursion (λ (z : Letter). is_before x z.name ≡ true) ms

pub behind_along : (x y : Name) (ms : List Letter) → is_before x y ≡ true → Behind y ms → Behind x ms
behind_along x y [] e all = tt
behind_along x y (m ∷ ms) e all = (
  along (numbers_of x) (numbers_of y) (numbers_of m.name) e all.0,
  behind_along x y ms e all.1,
)

-- the order stays
module _ (x : Name) (m y : Letter) (ys rest : List Letter) where
  behind_step : (b : Bool) → is_before x m.name ≡ true → Behind x (y ∷ ys) → Behind x rest →
      Behind x (if b then y ∷ rest else m ∷ y ∷ ys)
  behind_step true e all more = (all.0, more)
  behind_step false e all more = (e, all)

behind_placed : (x : Name) (m : Letter) (ms : List Letter) → is_before x m.name ≡ true → Behind x ms →
    Behind x (placed m ms)
behind_placed x m [] e all = (e, tt)
behind_placed x m (y ∷ ys) e all = behind_step x m y ys (placed m ys) (is_before y.name m.name) e all
    (behind_placed x m ys e all.1)

pub not_same : (b : Bool) (y : Letter) (r : Option Letter) → (if b then Some y else r) ≡ None → b ≡ false
not_same true y r e = absurd (grind arith)
not_same false y r e = refl

pub not_later : (b : Bool) (y : Letter) (r : Option Letter) → (if b then Some y else r) ≡ None → r ≡ None
not_later true y r e = absurd (grind arith)
not_later false y r e = e

placed_step : (m y : Letter) (ys : List Letter) (b : Bool) → is_before y.name m.name ≡ b → Ascends (y ∷ ys) →
    same_name y.name m.name ≡ false → Ascends (placed m ys) → Ascends (if b then y ∷ placed m ys else m ∷ y ∷ ys)
placed_step m y ys true f up other more = (behind_placed y.name m ys f up.0, more)
placed_step m y ys false f up other more =
    let less : is_before m.name y.name ≡ true = total (numbers_of y.name) (numbers_of m.name) f other in
    ((less, behind_along m.name y.name ys less up.0), up)

pub placed_ascends : (m : Letter) (ms : List Letter) → Ascends ms → found m.name ms ≡ None → Ascends (placed m ms)
placed_ascends m [] up e = (tt, tt)
placed_ascends m (y ∷ ys) up e =
    placed_step m y ys (is_before y.name m.name) refl up (not_same (same_name y.name m.name) y (found m.name ys) e)
    (placed_ascends m ys up.1 (not_later (same_name y.name m.name) y (found m.name ys) e))

behind_left : (x y : Name) (z : Letter) (zs rest : List Letter) (b : Bool) → Behind x (z ∷ zs) → Behind x rest →
    Behind x (if b then zs else z ∷ rest)
behind_left x y z zs rest true all more = all.1
behind_left x y z zs rest false all more = (all.0, more)

behind_without : (x y : Name) (ms : List Letter) → Behind x ms → Behind x (without y ms)
behind_without x y [] all = tt
behind_without x y (z ∷ zs) all = behind_left x y z zs (without y zs) (same_name z.name y) all
    (behind_without x y zs all.1)

left_step : (x : Name) (z : Letter) (zs : List Letter) (b : Bool) → Ascends (z ∷ zs) → Ascends (without x zs) →
    Ascends (if b then zs else z ∷ without x zs)
left_step x z zs true up more = up.1
left_step x z zs false up more = (behind_without z.name x zs up.0, more)

pub without_ascends : (x : Name) (ms : List Letter) → Ascends ms → Ascends (without x ms)
without_ascends x [] up = tt
without_ascends x (z ∷ zs) up = left_step x z zs (same_name z.name x) up (without_ascends x zs up.1)

-- past a message of another name
pub past_other : (x : Name) (z : Letter) (zs : List Letter) → same_name z.name x ≡ false → IsMissing x zs →
    IsMissing x (z ∷ zs)
past_other x z zs other rest = record {
  missing = ap (λ (b : Bool). if b then Some z else found x zs) other ∙ rest.missing;
  whole = ap (λ (b : Bool). if b then zs else z ∷ without x zs) other ∙ ap (λ (r : List Letter). z ∷ r) rest.whole;
}

-- a name before all others is none of theirs
pub none_behind : (x : Name) (ms : List Letter) → Behind x ms → IsMissing x ms
none_behind x [] all = record { missing = refl; whole = refl }
none_behind x (z ∷ zs) all =
    past_other x z zs (apart_back (numbers_of z.name) (numbers_of x) all.0) (none_behind x zs all.1)

-- how many there are
longer_step : (m y : Letter) (ys rest : List Letter) (b : Bool) → length rest ≡ suc (length ys) →
    length (if b then y ∷ rest else m ∷ y ∷ ys) ≡ suc (suc (length ys))
longer_step m y ys rest true e = ap suc e
longer_step m y ys rest false e = refl

pub longer : (m : Letter) (ms : List Letter) → length (placed m ms) ≡ suc (length ms)
longer m [] = refl
longer m (y ∷ ys) = longer_step m y ys (placed m ys) (is_before y.name m.name) (longer m ys)

shorter_step : (z : Letter) (zs rest : List Letter) (b : Bool) → length rest ≤ length zs →
    length (if b then zs else z ∷ rest) ≤ suc (length zs)
shorter_step z zs rest true le = omega arith
shorter_step z zs rest false le = omega (arith, le)

pub shorter : (x : Name) (ms : List Letter) → length (without x ms) ≤ length ms
shorter x [] = omega arith
shorter x (z ∷ zs) = shorter_step z zs (without x zs) (same_name z.name x) (shorter x zs)

same_heads : (x y : ℕ) (b : Bool) → (x == y && b) ≡ true → x ≡ y
same_heads x y true e = grind arith
same_heads x y false e = absurd (grind arith)

same_rests : (x y : ℕ) (b : Bool) → (x == y && b) ≡ true → b ≡ true
same_rests x y true e = refl
same_rests x y false e = absurd (grind arith)

abbrev kind_of : ℕ → NameKind
kind_of n = if n == 0 then Refresh else if n == 1 then Dep else if n == 2 then Update else if n == 3 then Push
    else if n == 4 then Tally else Verdict

kind_back : (k : NameKind) → kind_of (kind_place k) ≡ k
kind_back Refresh = refl
kind_back Dep = refl
kind_back Update = refl
kind_back Push = refl
kind_back Tally = refl
kind_back Verdict = refl

pub same_kind : (j k : NameKind) → kind_place j ≡ kind_place k → j ≡ k
same_kind j k e = sym (kind_back j) ∙ ap kind_of e ∙ kind_back k

abbrev pub name_of : NameKind → ℕ → ℕ → ℕ → ℕ → ℕ → Name
name_of k r s h f t = record { kind = k; round = r; step = s; half = h; from = f; to = t }

pub names_law : NamesAreTheirNumbers
names_law a b e =
    let kinds : kind_place a.kind ≡ kind_place b.kind = same_heads _ _ _ e in
    let e1 = same_rests (kind_place a.kind) (kind_place b.kind) _ e in
    let rounds : a.round ≡ b.round = same_heads _ _ _ e1 in
    let e2 = same_rests a.round b.round _ e1 in
    let steps : a.step ≡ b.step = same_heads _ _ _ e2 in
    let e3 = same_rests a.step b.step _ e2 in
    let halves : a.half ≡ b.half = same_heads _ _ _ e3 in
    let e4 = same_rests a.half b.half _ e3 in
    let froms : a.from ≡ b.from = same_heads _ _ _ e4 in
    let e5 = same_rests a.from b.from _ e4 in
    let tos : a.to ≡ b.to = same_heads _ _ _ e5 in
    let kind : a.kind ≡ b.kind = same_kind a.kind b.kind kinds in
    ap (λ (k : NameKind). name_of k a.round a.step a.half a.from a.to) kind
    ∙ ap (λ (n : ℕ). name_of b.kind n a.step a.half a.from a.to) rounds
    ∙ ap (λ (n : ℕ). name_of b.kind b.round n a.half a.from a.to) steps
    ∙ ap (λ (n : ℕ). name_of b.kind b.round b.step n a.from a.to) halves
    ∙ ap (λ (n : ℕ). name_of b.kind b.round b.step b.half n a.to) froms
    ∙ ap (λ (n : ℕ). name_of b.kind b.round b.step b.half b.from n) tos

clash : {X : Type 0} (b : Bool) → b ≡ true → b ≡ false → X
clash true e f = absurd (grind arith)
clash false e f = absurd (grind arith)

-- two of three names that are the same as the third are the same
meet : (a b x : Name) → same_name a x ≡ true → same_name b x ≡ true → a ≡ b
meet a b x e f = names_law a x e ∙ sym (names_law b x f)

self_step : (x : ℕ) (b : Bool) → b ≡ true → (x == x && b) ≡ true
self_step x true e = grind arith
self_step x false e = absurd (grind arith)

pub same_self : (xs : List ℕ) → same_numbers xs xs ≡ true
same_self [] = refl
same_self (x ∷ xs) = self_step x (same_numbers xs xs) (same_self xs)

swap_step : (m y : Letter) (r : Option Letter) (s t : Bool) → (s ≡ true → t ≡ true → true ≡ false) →
    (if t then Some y else if s then Some m else r) ≡ (if s then Some m else if t then Some y else r)
swap_step m y r true true f = clash true refl (f refl refl)
swap_step m y r true false f = refl
swap_step m y r false true f = refl
swap_step m y r false false f = refl

placed_found : (m y : Letter) (ys : List Letter) (x : Name) (b : Bool) → is_before y.name m.name ≡ b →
    found x (placed m ys) ≡ (if same_name m.name x then Some m else found x ys) →
    found x (if b then y ∷ placed m ys else m ∷ y ∷ ys) ≡ (if same_name m.name x then Some m else found x (y ∷ ys))
placed_found m y ys x true e more =
    ap (λ (r : Option Letter). if same_name y.name x then Some y else r) more
    ∙ swap_step m y (found x ys) (same_name m.name x) (same_name y.name x) (λ s t.
    sym (subst (λ (n : Name). same_name y.name n ≡ true) (meet y.name m.name x t s) (same_self (numbers_of y.name)))
    ∙ apart (numbers_of y.name) (numbers_of m.name) e)
placed_found m y ys x false e more = refl

pub placed_law : PlacedIsFound
placed_law m [] x = refl
placed_law m (y ∷ ys) x = placed_found m y ys x (is_before y.name m.name) refl (placed_law m ys x)

taken_same : (y x : Name) (z : Letter) (zs : List Letter) (s t : Bool) → (s ≡ true → found x zs ≡ None) →
    (s ≡ false → t ≡ false) → found x zs ≡ (if s then None else if t then Some z else found x zs)
taken_same y x z zs true t f g = f refl
taken_same y x z zs false true f g = clash true refl (g refl)
taken_same y x z zs false false f g = refl

taken_other : (z : Letter) (r : Option Letter) (s t : Bool) → (s ≡ true → t ≡ true → true ≡ false) →
    (if t then Some z else if s then None else r) ≡ (if s then None else if t then Some z else r)
taken_other z r true true f = clash true refl (f refl refl)
taken_other z r true false f = refl
taken_other z r false true f = refl
taken_other z r false false f = refl

taken_step : (y : Name) (z : Letter) (zs : List Letter) (x : Name) (b : Bool) → same_name z.name y ≡ b →
    Behind z.name zs → found x (without y zs) ≡ (if same_name y x then None else found x zs) →
    found x (if b then zs else z ∷ without y zs) ≡ (if same_name y x then None else found x (z ∷ zs))
taken_step y z zs x true e all more =
    let is : z.name ≡ y = names_law z.name y e in
    taken_same y x z zs (same_name y x) (same_name z.name x)
    (λ s. (none_behind x zs (subst (λ (n : Name). Behind n zs) (is ∙ names_law y x s) all)).missing)
    (λ s. subst (λ (n : Name). same_name n x ≡ false) (sym is) s)
taken_step y z zs x false e all more =
    ap (λ (r : Option Letter). if same_name z.name x then Some z else r) more
    ∙ taken_other z (found x zs) (same_name y x) (same_name z.name x) (λ s t.
    sym (subst (λ (n : Name). same_name z.name n ≡ true) (meet z.name y x t s) (same_self (numbers_of z.name))) ∙ e)

none_either : (b : Bool) → ◌≡◌ {A = Option Letter} None (if b then None else None)
none_either true = refl
none_either false = refl

pub taken_law : TakenIsGone
taken_law y [] x up = none_either (same_name y x)
taken_law y (z ∷ zs) x up = taken_step y z zs x (same_name z.name y) refl up.0 (taken_law y zs x up.1)

absent_step : (x : Name) (z : Letter) (zs : List Letter) (b : Bool) → (if b then Some z else found x zs) ≡ None →
    (found x zs ≡ None → without x zs ≡ zs) → (if b then zs else z ∷ without x zs) ≡ z ∷ zs
absent_step x z zs true e more = absurd (grind arith)
absent_step x z zs false e more = ap (λ (r : List Letter). z ∷ r) (more e)

-- without a name that isn't there
pub absent : (x : Name) (ms : List Letter) → found x ms ≡ None → without x ms ≡ ms
absent x [] e = refl
absent x (z ∷ zs) e = absent_step x z zs (same_name z.name x) e (absent x zs)

pub not_true : (b : Bool) → (b ≡ true → ⊥) → b ≡ false
not_true true f = absurd (f refl)
not_true false f = refl

-- of two names only one is before the other
pub one_way : (a b : Name) → is_before a b ≡ true → is_before b a ≡ false
one_way a b e =
    not_true (is_before b a) (λ f. true_and_false (same_self (numbers_of b))
    (apart (numbers_of b) (numbers_of b) (along (numbers_of b) (numbers_of a) (numbers_of b) f e)))
  where
    true_and_false : {c : Bool} → c ≡ true → c ≡ false → ⊥
    true_and_false s t = cc

found_name_step : (x : Name) (z y : Letter) (r : Option Letter) (b : Bool) → same_name z.name x ≡ b →
    (if b then Some z else r) ≡ Some y → (r ≡ Some y → y.name ≡ x) → y.name ≡ x
found_name_step x z y r true same e more =
    let it : z ≡ y = cc in
    ap (λ (l : Letter). l.name) (sym it) ∙ names_law z.name x same
found_name_step x z y r false same e more = more e

-- the message of a name has it
pub found_name : (x : Name) (ms : List Letter) (y : Letter) → found x ms ≡ Some y → y.name ≡ x
found_name x [] y e = absurd (cc)
found_name x (z ∷ zs) y e = found_name_step x z y (found x zs) (same_name z.name x) refl e (found_name x zs y)

-- a name whose message was taken out has nothing
pub taken_none : (x : Name) (ms : List Letter) → Ascends ms → found x (without x ms) ≡ None
taken_none x ms up = taken_law x ms x up ∙ ap (λ (b : Bool). if b then None else found x ms) (same_self (numbers_of x))

-- ---- a list is settled by what each name has
head_found : (m : Letter) (ms : List Letter) → found m.name (m ∷ ms) ≡ Some m
head_found m ms = ap (λ (b : Bool). if b then Some m else found m.name ms) (same_self (numbers_of m.name))

-- a message that is found isn't before all of them
not_before : (m n : Letter) (ns : List Letter) → Ascends (n ∷ ns) → found m.name (n ∷ ns) ≡ Some m →
    is_before m.name n.name ≡ false
not_before m n ns up e =
    not_true (is_before m.name n.name) (λ before.
    let gone = (none_behind m.name (n ∷ ns) (before, behind_along m.name n.name ns before up.0)).missing in
    let clash : ◌≡◌ {A = Option Letter} None (Some m) = sym gone ∙ e in
    cc)

-- the first messages are the same
heads : (m n : Letter) (ms ns : List Letter) → Ascends (m ∷ ms) → Ascends (n ∷ ns) → found m.name (n ∷ ns) ≡ Some m →
    found n.name (m ∷ ms) ≡ Some n → m ≡ n
heads m n ms ns up vp e f = go (same_name n.name m.name) refl
  where
    go : (b : Bool) → same_name n.name m.name ≡ b → m ≡ n
    go true same =
        let it : Some n ≡ Some m = sym (ap (λ (b : Bool). if b then Some n else found m.name ns) same) ∙ e in
        cc
    go false other =
        let less : is_before m.name n.name ≡ true =
        total (numbers_of n.name) (numbers_of m.name) (not_before n m ms up f) other in
        let clash : true ≡ false = sym less ∙ not_before m n ns vp e in
        absurd cc

-- what a name has behind the first message
module _ (x : Name) (m : Letter) (ms ns : List Letter) where
  tail_step : (b : Bool) → same_name m.name x ≡ b → Ascends (m ∷ ms) → Ascends (m ∷ ns) →
      (if b then Some m else found x ms) ≡ (if b then Some m else found x ns) → found x ms ≡ found x ns
  tail_step true same up vp e =
      let is : m.name ≡ x = names_law m.name x same in
      (none_behind x ms (subst (λ n. Behind n ms) is up.0)).missing
      ∙ sym (none_behind x ns (subst (λ n. Behind n ns) is vp.0)).missing
  tail_step false other up vp e = e

pub same_law : SameLetters
same_law [] [] up vp e = refl
same_law [] (n ∷ ns) up vp e =
    let clash : ◌≡◌ {A = Option Letter} None (Some n) = e n.name ∙ head_found n ns in
    absurd cc
same_law (m ∷ ms) [] up vp e =
    let clash : ◌≡◌ {A = Option Letter} None (Some m) = sym (e m.name) ∙ head_found m ms in
    absurd cc
same_law (m ∷ ms) (n ∷ ns) up vp e =
    let first : m ≡ n = heads m n ms ns up vp (sym (e m.name) ∙ head_found m ms) (e n.name ∙ head_found n ns) in
    let vp' : Ascends (m ∷ ns) = subst (λ l. Ascends (l ∷ ns)) (sym first) vp in
    let rest : ms ≡ ns = same_law ms ns up.1 vp'.1 (λ x.
    tail_step x m ms ns (same_name m.name x) refl up vp' (e x ∙ ap (λ l. found x (l ∷ ns)) (sym first))) in
    ap (λ l. l ∷ ms) first ∙ ap (λ l. n ∷ l) rest
