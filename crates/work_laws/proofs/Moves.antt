-- Where an action or a take of a core leads, and under which names it holds messages.
use Rattle.std.proofs.Common.{◌≡◌, ◌≢◌, ℕ, Bool, true, false, List, [], ◌∷◌, map, refl, ap, ◌∙◌}
use Rattle.std.specs.Prelude.{◌-◌, ◌&&◌, ◌||◌, not, if◌then◌else◌, is_some, nat_lt}
use Rattle.vert_base.specs.declared.message.Name.{Name}
use Rattle.vert_base.specs.declared.message.NameKind.{NameKind}
use Rattle.vert_base.specs.declared.message.NameKind.TheVariants as kind
use Rattle.vert_base.specs.Letters.{Letter, found, placed}
use Rattle.vert_base.specs.Names.{same_name}
use Rattle.vert_base.proofs.LetterLaws.{placed_law}
use Rattle.circulant_plan.specs.declared.spot.Spot.{Spot}
use Rattle.circulant_plan.specs.declared.spot.Spot.TheVariants.{Tell, Judge, Begin, Scan, Close, Over}
use Rattle.circulant_plan.specs.Skeleton.{acting_ruling, standing_taken}
use Rattle.circulant_plan.specs.Table.{gives_of}
use Rattle.symple_face.specs.CoreDense.{scan_go, scan_kept, scan_read}
use Rattle.symple_face.specs.CoreJudge.{judge_at}
use Rattle.symple_face.specs.CoreSight.{known}
use Rattle.symple_face.specs.CoreWork.{acted, core_acting, core_go, core_sent, core_take, held_at, sent_at, taken}
use Rattle.symple_face.specs.Lawful.{is_begin}
use Rattle.symple_face.specs.Plans.{ring_of}
use Rattle.symple_face.specs.State.{State, has_taken, machine, p_of, ruling_read}
use Rattle.state_laws.proofs.Letters.{still_there}
use Rattle.state_laws.proofs.Options.{some_if}

-- ---- what an action leaves as it was
either_same : {X Y : Type 0} (f : X → Y) (b : Bool) (x y : X) (z : Y) → f x ≡ z → f y ≡ z → f (if b then x else y) ≡ z
either_same f true x y z p q = p
either_same f false x y z p q = q

scan_same : {Y : Type 0} (f : State → Y) (z : Y) (s : State) (r step h : ℕ) → f (scan_read s r step h) ≡ z →
    f (scan_kept s r step h) ≡ z →
    f (scan_go s r step h) ≡ z
scan_same f z s r step h p q = either_same f (nat_lt step (p_of s - 1)) (scan_read s r step h) (scan_kept s r step h) z
    p q

pub acted_part : (s : State) (spot : Spot) → (acted s spot).part ≡ s.part
acted_part s Tell = refl
acted_part s (Judge r) = refl
acted_part s (Begin r) = refl
acted_part s (Scan r step h) = scan_same (λ t. t.part) s.part s r step h refl refl
acted_part s (Close r dense) = refl
acted_part s Over = refl

pub acted_split : (s : State) (spot : Spot) → (acted s spot).split ≡ s.split
acted_split s Tell = refl
acted_split s (Judge r) = refl
acted_split s (Begin r) = refl
acted_split s (Scan r step h) = scan_same (λ t. t.split) s.split s r step h refl refl
acted_split s (Close r dense) = refl
acted_split s Over = refl

pub acted_ruling : (s : State) (spot : Spot) → (acted s spot).ruling ≡ acting_ruling (judge_at s spot) s.ruling spot
acted_ruling s Tell = refl
acted_ruling s (Judge r) = refl
acted_ruling s (Begin r) = refl
acted_ruling s (Scan r step h) = scan_same (λ t. t.ruling) s.ruling s r step h refl refl
acted_ruling s (Close r dense) = refl
acted_ruling s Over = refl

-- ---- the names held
pub acted_held : (s : State) (spot : Spot) (x : Name) → has_taken (acted s spot) x ≡ has_taken s x
acted_held s Tell x = refl
acted_held s (Judge r) x = refl
acted_held s (Begin r) x = still_there _ x s.held
acted_held s (Scan r step h) x =
    scan_same (λ t. has_taken t x) (has_taken s x) s r step h (still_there _ x s.held) (still_there _ x s.held)
acted_held s (Close r dense) x = refl
acted_held s Over x = refl

held_at_begin : (spot : Spot) (held : List Letter) (x : Name) →
    is_some (found x (held_at spot held)) ≡ (not (is_begin spot) && is_some (found x held))
held_at_begin Tell held x = refl
held_at_begin (Judge r) held x = refl
held_at_begin (Begin r) held x = refl
held_at_begin (Scan r step h) held x = refl
held_at_begin (Close r dense) held x = refl
held_at_begin Over held x = refl

pub go_held : (s : State) (x : Name) → has_taken (core_go s) x ≡ (not (is_begin (core_go s).at.spot) && has_taken s x)
go_held s x =
    held_at_begin (core_go s).at.spot (acted s s.at.spot).held x
    ∙ ap (λ b. not (is_begin (core_go s).at.spot) && b) (acted_held s s.at.spot x)

-- ---- what is sent
mapped_names : (f : Name → List ℕ) (xs : List Name) →
    map (λ l. l.name) (map (λ x. let l : Letter = record { name = x; body = f x } in l) xs) ≡ xs
mapped_names f [] = refl
mapped_names f (x ∷ xs) = ap (λ l. x ∷ l) (mapped_names f xs)

pub sent_names : (s : State) → map (λ l. l.name) (core_sent s) ≡ gives_of (ring_of s.split (p_of s)) (machine s)
    s.at.spot (core_acting s)
sent_names s = mapped_names (sent_at s s.at.spot)
    (gives_of (ring_of s.split (p_of s)) (machine s) s.at.spot (core_acting s))

-- ---- takes
push_same : {Y : Type 0} (f : State → Y) (z : Y) (s : State) (l : Letter) (a b : State) → f a ≡ z → f b ≡ z →
    f (if known s then a else b) ≡ z
push_same f z s l a b p q = either_same f (known s) a b z p q

pub taken_part : (k : NameKind) (s : State) (l : Letter) → (taken k s l).part ≡ s.part
taken_part kind.Refresh s l = refl
taken_part kind.Dep s l = refl
taken_part kind.Update s l = refl
taken_part kind.Push s l = push_same (λ t. t.part) s.part s l _ _ refl refl
taken_part kind.Tally s l = refl
taken_part kind.Verdict s l = refl

pub taken_split : (k : NameKind) (s : State) (l : Letter) → (taken k s l).split ≡ s.split
taken_split kind.Refresh s l = refl
taken_split kind.Dep s l = refl
taken_split kind.Update s l = refl
taken_split kind.Push s l = push_same (λ t. t.split) s.split s l _ _ refl refl
taken_split kind.Tally s l = refl
taken_split kind.Verdict s l = refl

pub taken_at : (k : NameKind) (s : State) (l : Letter) → (taken k s l).at ≡ standing_taken k (ruling_read l.body) s.at
taken_at kind.Refresh s l = refl
taken_at kind.Dep s l = refl
taken_at kind.Update s l = refl
taken_at kind.Push s l = push_same (λ t. t.at) s.at s l _ _ refl refl
taken_at kind.Tally s l = refl
taken_at kind.Verdict s l = refl

pub placed_held : (l : Letter) (held : List Letter) (x : Name) →
    is_some (found x (placed l held)) ≡ (same_name l.name x || is_some (found x held))
placed_held l held x = ap is_some (placed_law l held x) ∙ some_if (same_name l.name x) l (found x held)

pub taken_held : (k : NameKind) (s : State) (l : Letter) (x : Name) →
    has_taken (taken k s l) x ≡ (same_name l.name x || has_taken s x)
taken_held kind.Refresh s l x = placed_held l s.held x
taken_held kind.Dep s l x = placed_held l s.held x
taken_held kind.Update s l x = placed_held (record l { body = [] }) s.held x
taken_held kind.Push s l x =
    push_same (λ t. has_taken t x) (same_name l.name x || has_taken s x) s l _ _
    (placed_held (record l { body = [] }) s.held x)
    (placed_held l s.held x)
taken_held kind.Tally s l x = placed_held l s.held x
taken_held kind.Verdict s l x = placed_held l s.held x

pub take_verdict : (s : State) (l : Letter) → l.name.kind ≡ kind.Verdict → (core_take s l).ruling ≡ ruling_read l.body
take_verdict s l e = ap (λ k. (taken k s l).ruling) e

taken_ruling : (k : NameKind) (s : State) (l : Letter) → k ≢ kind.Verdict → (taken k s l).ruling ≡ s.ruling
taken_ruling kind.Refresh s l other = refl
taken_ruling kind.Dep s l other = refl
taken_ruling kind.Update s l other = refl
taken_ruling kind.Push s l other = push_same (λ t. t.ruling) s.ruling s l _ _ refl refl
taken_ruling kind.Tally s l other = refl
taken_ruling kind.Verdict s l other = absurd (other refl)

pub take_other : (s : State) (l : Letter) → l.name.kind ≢ kind.Verdict → (core_take s l).ruling ≡ s.ruling
take_other s l other = taken_ruling l.name.kind s l other
