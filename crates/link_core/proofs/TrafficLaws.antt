-- What many messages sent at once do to the counts of names.
use Rattle.std.proofs.Common.{◌≡◌, ℕ, ◌+◌, ◌-◌, Bool, true, false, ◌||◌, List, [], ◌∷◌, refl, ap, sym, ◌∙◌, subst, arith, ⊎_elim}
use Rattle.std.specs.Prelude.{None, if◌then◌else◌, is_some, min}
use Rattle.std.proofs.lemmas.Bool.{cases_Bool, false≢true, or_left, or_right}
use Rattle.vert_base.specs.declared.message.Name.{Name}
use Rattle.vert_base.specs.Names.{same_name}
use Rattle.vert_base.specs.Letters.{Letter, found, placed}
use Rattle.vert_base.proofs.LetterLaws.{names_law}
use Rattle.circulant_plan.specs.Skeleton.{has_name}
use Rattle.circulant_plan.proofs.Members.{Has}
use Rattle.circulant_plan.proofs.NameLists.{Once, has_from_name, name_from_has, same_as_self}
use Rattle.cluster_run.specs.Sends.{AreNew}
use Rattle.cluster_run.proofs.LetterLists as letters
use Rattle.cluster_run.proofs.LetterLists.{has_letter, has_placed, same_swap}
use Rattle.link_core.specs.declared.pile.Pile.{Pile}
use Rattle.link_core.specs.Piles.{ArePiles, count_of, fewer, more}
use Rattle.link_core.specs.Traffic.{Traffic, all_sent, sent}
use Rattle.link_core.proofs.PileLaws.{count_fewer, count_more, more_are}
use Rattle.link_core.proofs.WireLaws.{other_fewer, other_more}

-- the three lists are piles
pub record IsTraffic (t : Traffic) : Type 0 where
  pub copies : ArePiles t.copies
  pub acks : ArePiles t.acks
  pub kept : ArePiles t.kept

pub same_more : (x : Name) (ps : List Pile) → ArePiles ps → count_of x (more x ps) ≡ min (count_of x ps + 1) 255
same_more x ps are =
    count_more x x ps are.ascend
    ∙ ap (λ (b : Bool). if b then min (count_of x ps + 1) 255 else count_of x ps) (same_as_self x)

pub same_fewer : (x : Name) (ps : List Pile) → ArePiles ps → count_of x (fewer x ps) ≡ count_of x ps - 1
same_fewer x ps are =
    count_fewer x x ps are.ascend
    ∙ ap (λ (b : Bool). if b then count_of x ps - 1 else count_of x ps) (same_as_self x)

-- fewer of none is none
pub none_fewer : (x y : Name) (ps : List Pile) → ArePiles ps → count_of y ps ≡ 0 → count_of y (fewer x ps) ≡ 0
none_fewer x y ps are none = choose (same_name x y) refl
  where
    choose : (b : Bool) → same_name x y ≡ b → count_of y (fewer x ps) ≡ 0
    choose true e =
        subst (λ z. count_of z ps ≡ 0 → count_of z (fewer x ps) ≡ 0) (names_law x y e)
        (λ zero. same_fewer x ps are ∙ (let z = zero in omega arith)) none
    choose false e = other_fewer x y ps are.ascend e ∙ none

-- ---- all of a list
pub sent_is : (x : Name) (t : Traffic) → IsTraffic t → IsTraffic (sent x t)
sent_is x t is = record {
  copies = more_are x t.copies is.copies;
  acks = is.acks;
  kept = more_are x t.kept is.kept;
}

pub all_sent_is : (xs : List Name) (t : Traffic) → IsTraffic t → IsTraffic (all_sent xs t)
all_sent_is [] t is = is
all_sent_is (x ∷ xs) t is = all_sent_is xs (sent x t) (sent_is x t is)

pub all_sent_acks : (xs : List Name) (t : Traffic) → (all_sent xs t).acks ≡ t.acks
all_sent_acks [] t = refl
all_sent_acks (x ∷ xs) t = all_sent_acks xs (sent x t)

-- what a name has on the wire, and whether it is kept
pub record Counts : Type 0 where
  pub copies : ℕ
  pub kept : ℕ

abbrev pub counts_of : Name → Traffic → Counts
counts_of x t = record { copies = count_of x t.copies; kept = count_of x t.kept }

abbrev grown : Counts → Counts
grown n = record { copies = min (n.copies + 1) 255; kept = min (n.kept + 1) 255 }

pub not_either : (a b : Bool) → (a || b) ≡ false → (a ≡ false) × (b ≡ false)
not_either true b e = absurd (false≢true (sym e))
not_either false b e = (refl, e)

counts_other : (x y : Name) (t : Traffic) → IsTraffic t → same_name y x ≡ false → counts_of x (sent y t) ≡ counts_of x t
counts_other x y t is other =
    ap (λ n. (let c : Counts = record { copies = n; kept = count_of x (more y t.kept) } in c))
    (other_more y x t.copies is.copies.ascend other)
    ∙ ap (λ n. (let c : Counts = record { copies = count_of x t.copies; kept = n } in c))
    (other_more y x t.kept is.kept.ascend other)

counts_same : (x : Name) (t : Traffic) → IsTraffic t → counts_of x (sent x t) ≡ grown (counts_of x t)
counts_same x t is =
    ap (λ n. (let c : Counts = record { copies = n; kept = count_of x (more x t.kept) } in c))
    (same_more x t.copies is.copies)
    ∙ ap (λ n. (let c : Counts = record { copies = min (count_of x t.copies + 1) 255; kept = n } in c))
    (same_more x t.kept is.kept)

-- a name that isn't among them keeps its counts
pub none_sent : (x : Name) (xs : List Name) (t : Traffic) → IsTraffic t → has_name x xs ≡ false →
    counts_of x (all_sent xs t) ≡ counts_of x t
none_sent x [] t is e = refl
none_sent x (y ∷ ys) t is e =
    let parts = not_either (same_name x y) (has_name x ys) e in
    none_sent x ys (sent y t) (sent_is y t is) parts.1
    ∙ counts_other x y t is (same_swap y x ∙ parts.0)

not_there : (x : Name) (xs : List Name) → (Has xs x → ⊥) → has_name x xs ≡ false
not_there x xs none =
    ⊎_elim
    (λ (e : has_name x xs ≡ true). absurd (none (has_from_name x xs e)))
    (λ (e : has_name x xs ≡ false). e)
    (cases_Bool (has_name x xs))

module _ (x y : Name) (ys : List Name) (t : Traffic) where
  once_sent_step : (b : Bool) → IsTraffic t → same_name x y ≡ b → Once (y ∷ ys) → (b || has_name x ys) ≡ true →
      (has_name x ys ≡ true → counts_of x (all_sent ys (sent y t)) ≡ grown (counts_of x (sent y t))) →
      counts_of x (all_sent ys (sent y t)) ≡ grown (counts_of x t)
  once_sent_step true is e once there rest =
      let same : x ≡ y = names_law x y e in
      none_sent x ys (sent y t) (sent_is y t is) (not_there x ys (subst (λ z. Has ys z → ⊥) (sym same) once.0))
      ∙ subst (λ z. counts_of x (sent z t) ≡ grown (counts_of x t)) same (counts_same x t is)
  once_sent_step false is e once there rest =
      rest there ∙ ap grown (counts_other x y t is (same_swap y x ∙ e))

-- a name that is among them, once, has one more of both
pub once_sent : (x : Name) (xs : List Name) (t : Traffic) → IsTraffic t → Once xs → has_name x xs ≡ true →
    counts_of x (all_sent xs t) ≡ grown (counts_of x t)
once_sent x [] t is once e = absurd (false≢true e)
once_sent x (y ∷ ys) t is once e =
    once_sent_step x y ys t (same_name x y) is refl once e
    (λ there. once_sent x ys (sent y t) (sent_is y t is) once.1 there)

-- ---- new messages have names of their own
some_found : (x : Name) (ms : List Letter) → found x ms ≡ None → has_letter x ms ≡ true → ⊥
some_found x ms none some = false≢true (sym (ap is_some none) ∙ some)

-- none of them has a name that is there
pub new_apart : (ls ms : List Letter) → AreNew ls ms → (x : Name) → has_letter x ms ≡ true →
    has_name x (letters.names_of ls) ≡ false
new_apart [] ms new x there = refl
new_apart (l ∷ ls) ms new x there =
    let other : same_name x l.name ≡ false =
    ⊎_elim
    (λ (e : same_name x l.name ≡ true).
    absurd (some_found l.name ms new.0 (subst (λ z. has_letter z ms ≡ true) (names_law x l.name e) there)))
    (λ (e : same_name x l.name ≡ false). e)
    (cases_Bool (same_name x l.name)) in
    ap (λ b. b || has_name x (letters.names_of ls)) other
    ∙ new_apart ls (placed l ms) new.1 x
    (has_placed x l ms ∙ or_right (same_name x l.name) (has_letter x ms) there)

pub new_once : (ls ms : List Letter) → AreNew ls ms → Once (letters.names_of ls)
new_once [] ms new = tt
new_once (l ∷ ls) ms new = (
  (λ again.
      false≢true
      (sym (new_apart ls (placed l ms) new.1 l.name
      (has_placed l.name l ms ∙ or_left (same_name l.name l.name) (has_letter l.name ms) (same_as_self l.name)))
      ∙ name_from_has l.name (letters.names_of ls) again)),
  new_once ls (placed l ms) new.1,
)
