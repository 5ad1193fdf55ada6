-- The order of events, over numbers alone: where each machine stands, which messages were taken, and which are
-- under way.
use Rattle.std.proofs.Common.{◌≡◌, ◌≢◌, ◌⊎◌, ℕ, zero, suc, ◌+◌, ◌*◌, ◌<◌, ◌≤◌, Bool, true, false, sym, ◌∙◌, subst, inl, inr, arith, ⊎_elim}
use Rattle.std.proofs.lemmas.Bool.{cases_eq, cases_lt, false≢true, cases_Bool}
use Rattle.vert_base.specs.declared.message.Name.{Name}
use Rattle.circulant_plan.proofs.SendingLaws.{sent_at, needed_at}

-- what is seen of a state
pub record View : Type 0 where
  pub place : ℕ → ℕ
  pub over : ℕ → Bool
  pub taken : Name → Bool
  pub flies : Name → Bool

abbrev pub WasSent : View → Name → Type 0
WasSent v x = sent_at x < v.place x.from

-- the names of the messages of a run, `Named`, are of machines, are sent before they are needed, and are needed
-- in their round
pub record IsPlan (p : ℕ) (Named : Name → Type 0) : Type 0 where
  pub from_within : (x : Name) → Named x → x.from < p
  pub to_within : (x : Name) → Named x → x.to < p
  pub sooner : (x : Name) → Named x → sent_at x < needed_at p x
  pub needed_from : (x : Name) → Named x → 256 * x.round ≤ needed_at p x
  pub needed_to : (x : Name) → Named x → needed_at p x < 256 * x.round + 256

pub record Flies (p : ℕ) (Named : Name → Type 0) (v : View) (x : Name) : Type 0 where
  pub named : Named x
  pub not_over : v.over x.to ≡ false
  pub entered : 256 * x.round ≤ v.place x.to
  pub not_past : v.place x.to ≤ needed_at p x
  pub not_taken : v.taken x ≡ false
  pub was_sent : WasSent v x

-- what holds of every state that possible events leave
pub record Fits (p : ℕ) (Named : Name → Type 0) (v : View) : Type 0 where
  -- what was needed was sent
  pub needs_sent : (x : Name) → Named x → needed_at p x < v.place x.to → WasSent v x
  -- what was sent is under way or taken, unless its receiver is over or has left its round
  pub sent_there : (x : Name) → Named x → WasSent v x → v.over x.to ≡ false →
      v.place x.to < 256 * x.round + 256 → (v.flies x ≡ true) ⊎ (v.taken x ≡ true)
  pub flies : (x : Name) → v.flies x ≡ true → Flies p Named v x
  -- what was taken was sent, in a round that its receiver has reached
  pub taken : (x : Name) → v.taken x ≡ true → Named x × WasSent v x × (256 * x.round ≤ v.place x.to)
  -- nobody is past a machine that is over
  pub over_last : (i j : ℕ) → i < p → j < p → v.over i ≡ true → v.place j ≤ v.place i

-- what can happen next
pub data Possible (p : ℕ) (Ready : ℕ → Type 0) (v : View) : Type 0 where
  goes : (m : ℕ) → m < p → v.over m ≡ false → Ready m → Possible p Ready v
  takes : (x : Name) → v.flies x ≡ true → Possible p Ready v

-- a message that machine m needs where it stands and hasn't taken
pub record Lacks (p : ℕ) (Named : Name → Type 0) (v : View) (m : ℕ) : Type 0 where
  pub name : Name
  pub named : Named name
  pub here : name.to ≡ m
  pub sooner : sent_at name < v.place m
  pub within : v.place m < 256 * name.round + 256
  pub not_taken : v.taken name ≡ false

module _ (p : ℕ) (Named : Name → Type 0) (Ready : ℕ → Type 0) (is_plan : IsPlan p Named) (v : View)
    (fits : Fits p Named v) (waits : (m : ℕ) → m < p → v.over m ≡ false → Ready m ⊎ Lacks p Named v m) where
  -- from a machine that isn't over, whose place is below the bound: that one can go, or what it needs is under
  -- way, or its sender is behind it
  progress_within : (bound m : ℕ) → m < p → v.over m ≡ false → v.place m < bound → Possible p Ready v
  progress_within zero m in_range going below = absurd (omega arith)
  progress_within (suc bound) m in_range going below =
      ⊎_elim
      (λ (ready : Ready m). goes m in_range going ready)
      (λ (lacks : Lacks p Named v m).
      let x = lacks.name in
      let sooner = lacks.sooner in
      ⊎_elim
      (λ (behind : v.place x.from < suc (sent_at x)).
      let from_within = is_plan.from_within x lacks.named in
      let lower : v.place x.from < bound = omega arith in
      ⊎_elim
      (λ (over : v.over x.from ≡ true).
      absurd (let last = fits.over_last x.from m from_within in_range over in omega arith))
      (λ (from_going : v.over x.from ≡ false). progress_within bound x.from from_within from_going lower)
      (cases_Bool (v.over x.from)))
      (λ (past : suc (sent_at x) ≤ v.place x.from).
      let to_going : v.over x.to ≡ false = subst (λ j. v.over j ≡ false) (sym lacks.here) going in
      let not_left : v.place x.to < 256 * x.round + 256 =
      subst (λ j. v.place j < 256 * x.round + 256) (sym lacks.here) lacks.within in
      ⊎_elim
      (λ (flies : v.flies x ≡ true). takes x flies)
      (λ (taken : v.taken x ≡ true). absurd (false≢true (sym lacks.not_taken ∙ taken)))
      (fits.sent_there x lacks.named (omega arith) to_going not_left))
      (cases_lt (v.place x.from) (suc (sent_at x))))
      (waits m in_range going)

  -- some event is possible where a machine isn't over
  pub progress : (m : ℕ) → m < p → v.over m ≡ false → Possible p Ready v
  progress m in_range going = progress_within (suc (v.place m)) m in_range going (omega arith)

-- machine m acts, which takes it from its place to b and sends what is named there
pub record Goes (p : ℕ) (Named : Name → Type 0) (v w : View) (m b : ℕ) : Type 0 where
  pub within : m < p
  pub going : v.over m ≡ false
  pub forward : v.place m < b
  pub place_here : w.place m ≡ b
  pub place_other : (j : ℕ) → j ≢ m → w.place j ≡ v.place j
  pub over_other : (j : ℕ) → j ≢ m → w.over j ≡ v.over j
  pub flies_new : (x : Name) → w.flies x ≡ true →
      (v.flies x ≡ true) ⊎ (Named x × (x.from ≡ m) × (sent_at x ≡ v.place m))
  pub flies_old : (x : Name) → v.flies x ≡ true → w.flies x ≡ true
  pub flies_sent : (x : Name) → Named x → x.from ≡ m → v.place m ≤ sent_at x → sent_at x < b → w.flies x ≡ true
  pub one_place : (x : Name) → Named x → x.from ≡ m → v.place m ≤ sent_at x → sent_at x < b → sent_at x ≡ v.place m
  pub needs_taken : (x : Name) → Named x → x.to ≡ m → v.place m ≤ needed_at p x → needed_at p x < b → v.taken x ≡ true
  pub taken_same : (x : Name) → w.taken x ≡ v.taken x
  -- who is sent something is in its round and isn't over
  pub entered : (x : Name) → Named x → x.from ≡ m → sent_at x ≡ v.place m → v.place x.to ≤ needed_at p x →
      256 * x.round ≤ v.place x.to
  pub receives : (x : Name) → Named x → x.from ≡ m → sent_at x ≡ v.place m → v.place x.to ≤ needed_at p x →
      w.over x.to ≡ false
  -- to a machine that ends here nothing is under way
  pub ends_alone : w.over m ≡ true → (x : Name) → v.flies x ≡ true → x.to ≡ m → ⊥
  pub last : (i j : ℕ) → i < p → j < p → w.over i ≡ true → w.place j ≤ w.place i

module _ (p : ℕ) (Named : Name → Type 0) (is_plan : IsPlan p Named) (v w : View) (fits : Fits p Named v)
    (m b : ℕ) (goes : Goes p Named v w m b) where
  -- no machine goes back
  grows : (j : ℕ) → v.place j ≤ w.place j
  grows j =
      ⊎_elim
      (λ (e : j ≡ m).
      subst (λ i. v.place i ≤ w.place i) (sym e)
      (let f = goes.forward in let h = goes.place_here in omega arith))
      (λ (ne : j ≢ m). let e = goes.place_other j ne in omega arith) (cases_eq j m)

  sent_still : (x : Name) → WasSent v x → WasSent w x
  sent_still x was = let g = grows x.from in omega arith

  -- what was sent now was sent before, or is sent by this action
  sent_cases : (x : Name) → Named x → WasSent w x →
      WasSent v x ⊎ ((x.from ≡ m) × (v.place m ≤ sent_at x) × (sent_at x < b))
  sent_cases x named now =
      ⊎_elim
      (λ (e : x.from ≡ m).
      ⊎_elim
      (λ (early : sent_at x < v.place m). inl (subst (λ j. sent_at x < v.place j) (sym e) early))
      (λ (late : v.place m ≤ sent_at x).
      let below : sent_at x < b =
      (let now_here : sent_at x < w.place m = subst (λ j. sent_at x < w.place j) e now in let h =
      goes.place_here in omega arith) in
      inr (e, late, below))
      (cases_lt (sent_at x) (v.place m)))
      (λ (ne : x.from ≢ m). inl (let e = goes.place_other x.from ne in omega arith))
      (cases_eq x.from m)

  needs_sent' : (x : Name) → Named x → needed_at p x < w.place x.to → WasSent w x
  needs_sent' x named now =
      ⊎_elim
      (λ (e : x.to ≡ m).
      ⊎_elim
      (λ (early : needed_at p x < v.place m).
      sent_still x (fits.needs_sent x named (subst (λ j. needed_at p x < v.place j) (sym e) early)))
      (λ (late : v.place m ≤ needed_at p x).
      let below : needed_at p x < b =
      (let now_here : needed_at p x < w.place m = subst (λ j. needed_at p x < w.place j) e now in let h =
      goes.place_here in omega arith) in
      sent_still x (fits.taken x (goes.needs_taken x named e late below)).1)
      (cases_lt (needed_at p x) (v.place m)))
      (λ (ne : x.to ≢ m). sent_still x (fits.needs_sent x named (let e = goes.place_other x.to ne in omega arith)))
      (cases_eq x.to m)

  -- a machine that goes on was going on before
  going_before : (j : ℕ) → w.over j ≡ false → v.over j ≡ false
  going_before j now =
      ⊎_elim (λ (e : j ≡ m). subst (λ i. v.over i ≡ false) (sym e) goes.going)
      (λ (ne : j ≢ m). sym (goes.over_other j ne) ∙ now) (cases_eq j m)

  sent_there' : (x : Name) → Named x → WasSent w x → w.over x.to ≡ false →
      w.place x.to < 256 * x.round + 256 → (w.flies x ≡ true) ⊎ (w.taken x ≡ true)
  sent_there' x named now going within =
      ⊎_elim
      (λ (was : WasSent v x).
      ⊎_elim
      (λ (flew : v.flies x ≡ true). inl (goes.flies_old x flew))
      (λ (taken : v.taken x ≡ true). inr (goes.taken_same x ∙ taken))
      (fits.sent_there x named was (going_before x.to going) (let g = grows x.to in omega arith)))
      (λ new. inl (goes.flies_sent x named new.0 new.1 new.2))
      (sent_cases x named now)

  flies_kept : (x : Name) → v.flies x ≡ true → Flies p Named w x
  flies_kept x flew =
      let f = fits.flies x flew in
      record {
        named = f.named;
        not_over = ⊎_elim (λ (over : w.over x.to ≡ true).
            absurd (⊎_elim
            (λ (e : x.to ≡ m). goes.ends_alone (subst (λ j. w.over j ≡ true) e over) x flew e)
            (λ (ne : x.to ≢ m). false≢true (sym f.not_over ∙ sym (goes.over_other x.to ne) ∙ over))
            (cases_eq x.to m)))
            (λ (going : w.over x.to ≡ false). going) (cases_Bool (w.over x.to));
        entered = let g = grows x.to in let e = f.entered in omega arith;
        not_past = ⊎_elim
            (λ (e : x.to ≡ m).
            ⊎_elim
            (λ (past : needed_at p x < b).
            let here : v.place m ≤ needed_at p x = subst (λ j. v.place j ≤ needed_at p x) e f.not_past in
            absurd (false≢true (sym f.not_taken ∙ goes.needs_taken x f.named e here past)))
            (λ (ahead : b ≤ needed_at p x).
            subst (λ j. w.place j ≤ needed_at p x) (sym e) (let h = goes.place_here in omega arith))
            (cases_lt (needed_at p x) b))
            (λ (ne : x.to ≢ m). let e = goes.place_other x.to ne in let q = f.not_past in omega arith)
            (cases_eq x.to m);
        not_taken = goes.taken_same x ∙ f.not_taken;
        was_sent = sent_still x f.was_sent;
      }

  -- a message that is sent now was neither sent nor taken before
  flies_first : (x : Name) → Named x → x.from ≡ m → sent_at x ≡ v.place m → Flies p Named w x
  flies_first x named by at =
      let unsent : WasSent v x → ⊥ =
      λ was.
      absurd
      (let earlier : sent_at x < v.place m = subst (λ j. sent_at x < v.place j) by was in omega arith)
      in
      let was_not_past : v.place x.to ≤ needed_at p x =
      ⊎_elim (λ (past : needed_at p x < v.place x.to). absurd (unsent (fits.needs_sent x named past)))
      (λ (le : v.place x.to ≤ needed_at p x). le) (cases_lt (needed_at p x) (v.place x.to)) in
      let sent_now : WasSent w x =
      subst (λ j. sent_at x < w.place j) (sym by)
      (let h = goes.place_here in let f = goes.forward in omega arith) in
      record {
        named = named;
        not_over = goes.receives x named by at was_not_past;
        entered = let g = grows x.to in let e = goes.entered x named by at was_not_past in omega arith;
        not_past = ⊎_elim
            (λ (e : x.to ≡ m).
            ⊎_elim
            (λ (past : needed_at p x < b).
            let here : v.place m ≤ needed_at p x = subst (λ j. v.place j ≤ needed_at p x) e was_not_past in
            absurd (unsent (fits.taken x (goes.needs_taken x named e here past)).1))
            (λ (ahead : b ≤ needed_at p x).
            subst (λ j. w.place j ≤ needed_at p x) (sym e) (let h = goes.place_here in omega arith))
            (cases_lt (needed_at p x) b))
            (λ (ne : x.to ≢ m). let e = goes.place_other x.to ne in omega arith)
            (cases_eq x.to m);
        not_taken =
            goes.taken_same x
            ∙ ⊎_elim (λ (taken : v.taken x ≡ true). absurd (unsent (fits.taken x taken).1))
            (λ (not : v.taken x ≡ false). not) (cases_Bool (v.taken x));
        was_sent = sent_now;
      }

  pub goes_keeps : Fits p Named w
  goes_keeps =
      record {
        needs_sent = needs_sent';
        sent_there = sent_there';
        flies = λ x now. ⊎_elim (flies_kept x) (λ new. flies_first x new.0 new.1 new.2) (goes.flies_new x now);
        taken =
            λ x now.
            let t = fits.taken x (sym (goes.taken_same x) ∙ now) in
            let low = t.2 in
            let g = grows x.to in
            (t.0, sent_still x t.1, omega arith);
        over_last = goes.last;
      }

-- the message x is taken, after which its receiver may be over
pub record Takes (p : ℕ) (Named : Name → Type 0) (v w : View) (x : Name) : Type 0 where
  pub flew : v.flies x ≡ true
  pub place : (j : ℕ) → w.place j ≡ v.place j
  pub over_other : (j : ℕ) → j ≢ x.to → w.over j ≡ v.over j
  pub flies_old : (y : Name) → w.flies y ≡ true → (v.flies y ≡ true) × (y ≢ x)
  pub flies_still : (y : Name) → v.flies y ≡ true → (y ≡ x) ⊎ (w.flies y ≡ true)
  pub taken_here : (y : Name) → w.taken y ≡ true → (y ≡ x) ⊎ (v.taken y ≡ true)
  pub taken_this : w.taken x ≡ true
  pub taken_still : (y : Name) → v.taken y ≡ true → w.taken y ≡ true
  pub ends_alone : w.over x.to ≡ true → (y : Name) → v.flies y ≡ true → y.to ≡ x.to → y ≡ x
  pub last : (i j : ℕ) → i < p → j < p → w.over i ≡ true → w.place j ≤ w.place i

module _ (p : ℕ) (Named : Name → Type 0) (is_plan : IsPlan p Named) (v w : View) (fits : Fits p Named v)
    (x : Name) (takes : Takes p Named v w x) where
  sent_as_before : (y : Name) → WasSent w y → WasSent v y
  sent_as_before y now = let e = takes.place y.from in omega arith

  sent_as_now : (y : Name) → WasSent v y → WasSent w y
  sent_as_now y was = let e = takes.place y.from in omega arith

  was_going : (j : ℕ) → w.over j ≡ false → v.over j ≡ false
  was_going j now =
      ⊎_elim (λ (e : j ≡ x.to). subst (λ i. v.over i ≡ false) (sym e) (fits.flies x takes.flew).not_over)
      (λ (ne : j ≢ x.to). sym (takes.over_other j ne) ∙ now) (cases_eq j x.to)

  flies_on : (y : Name) → w.flies y ≡ true → Flies p Named w y
  flies_on y now =
      let before = takes.flies_old y now in
      let f = fits.flies y before.0 in
      record {
        named = f.named;
        not_over = ⊎_elim (λ (over : w.over y.to ≡ true).
            absurd (⊎_elim
            (λ (e : y.to ≡ x.to). before.1 (takes.ends_alone (subst (λ j. w.over j ≡ true) e over) y before.0 e))
            (λ (ne : y.to ≢ x.to). false≢true (sym f.not_over ∙ sym (takes.over_other y.to ne) ∙ over))
            (cases_eq y.to x.to)))
            (λ (going : w.over y.to ≡ false). going) (cases_Bool (w.over y.to));
        entered = let e = takes.place y.to in let h = f.entered in omega arith;
        not_past = let e = takes.place y.to in let h = f.not_past in omega arith;
        not_taken = ⊎_elim (λ (taken : w.taken y ≡ true).
            absurd
            (⊎_elim (λ (same : y ≡ x). before.1 same)
            (λ (old : v.taken y ≡ true). false≢true (sym f.not_taken ∙ old))
            (takes.taken_here y taken)))
            (λ (not : w.taken y ≡ false). not) (cases_Bool (w.taken y));
        was_sent = sent_as_now y f.was_sent;
      }

  taken_on : (y : Name) → w.taken y ≡ true → Named y × WasSent w y × (256 * y.round ≤ w.place y.to)
  taken_on y now =
      ⊎_elim
      (λ (same : y ≡ x).
      let f = fits.flies x takes.flew in
      let low = f.entered in
      let e = takes.place x.to in
      subst (λ z. Named z × WasSent w z × (256 * z.round ≤ w.place z.to)) (sym same)
      (f.named, sent_as_now x f.was_sent, omega arith))
      (λ (old : v.taken y ≡ true).
      let t = fits.taken y old in
      let low = t.2 in
      let e = takes.place y.to in
      (t.0, sent_as_now y t.1, omega arith))
      (takes.taken_here y now)

  pub takes_keeps : Fits p Named w
  takes_keeps =
      record {
        needs_sent = λ y named past. sent_as_now y (fits.needs_sent y named (let e = takes.place y.to in omega arith));
        sent_there = λ y named now going within.
            ⊎_elim
            (λ (flew : v.flies y ≡ true).
            ⊎_elim (λ (same : y ≡ x). inr (subst (λ z. w.taken z ≡ true) (sym same) takes.taken_this))
            (λ (flies : w.flies y ≡ true). inl flies) (takes.flies_still y flew))
            (λ (taken : v.taken y ≡ true). inr (takes.taken_still y taken))
            (fits.sent_there y named (sent_as_before y now) (was_going y.to going)
            (let e = takes.place y.to in omega arith));
        flies = flies_on;
        taken = taken_on;
        over_last = takes.last;
      }
