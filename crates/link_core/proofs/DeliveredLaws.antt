-- Each message of a run is taken once, as it was sent.
use Rattle.std.proofs.Common.{◌≡◌, ◌⊎◌, ℕ, ◌≤◌, Bool, true, false, List, [], ◌∷◌, ◌++◌, length, Option, Some, None, refl, ap, sym, ◌∙◌, subst, inl, inr, ⊎_elim, slice_get}
use Rattle.std.specs.Prelude.{if◌then◌else◌, is_some}
use Rattle.std.specs.List.{Contains}
use Rattle.std.proofs.lemmas.Bool.{and_parts, false≢true}
use Rattle.vert_base.specs.declared.message.Name.{Name}
use Rattle.vert_base.specs.declared.message.Event.{Event}
use Rattle.vert_base.specs.declared.message.Event.TheVariants as plain
use Rattle.vert_base.specs.Letters.{Letter, found, placed}
use Rattle.vert_base.specs.Names.{same_name}
use Rattle.vert_base.proofs.LetterLaws.{found_name, names_law, placed_law, taken_law}
use Rattle.circulant_plan.specs.Skeleton.{Skeleton, has_name}
use Rattle.circulant_plan.proofs.Members.{Has, contains_from_has, has_append_cases, has_from_contains, has_left, has_right}
use Rattle.circulant_plan.proofs.NameLists.{same_as_self}
use Rattle.skeleton_laws.specs.Laws.{EachOnce}
use Rattle.instrument.specs.declared.split.Split.{Split}
use Rattle.symple_face.specs.Cluster.{IsOneRun, World, after, all_placed, all_possible, can_act, finished, possible, step}
use Rattle.symple_face.specs.Cluster as cluster
use Rattle.symple_face.specs.Lawful.{IsLawful}
use Rattle.symple_face.specs.Parts.{PlainPart}
use Rattle.symple_face.specs.State.{State}
use Rattle.symple_face.specs.Work.{Work}
use Rattle.cluster_run.specs.Sends.{AreNew, sent_with}
use Rattle.cluster_run.proofs.GoWorlds as go
use Rattle.cluster_run.proofs.LetterLists.{all_placed_is, names_of, without_is}
use Rattle.cluster_run.proofs.PartsAt.{parts_few}
use Rattle.cluster_run.proofs.ReachedWorlds.{IsTied}
use Rattle.cluster_run.proofs.ReachedWorldLaws.{empty}
use Rattle.cluster_run.proofs.TakeWorlds as take
use Rattle.link_core.specs.LinkOrder.{IsDeliveredOnce, sent_in, taken_at, taken_in}
use Rattle.link_core.proofs.TrafficLaws.{not_either}

-- ---- messages put among others stay, and those put there are found
keeps_placed : (l : Letter) (ms : List Letter) (x : Name) (y : Letter) → found l.name ms ≡ None →
    found x ms ≡ Some y → found x (placed l ms) ≡ Some y
keeps_placed l ms x y new there = placed_law l ms x ∙ choose (same_name l.name x) refl
  where
    choose : (b : Bool) → same_name l.name x ≡ b → (if b then Some l else found x ms) ≡ Some y
    choose true e =
        let clash : ◌≡◌ {A = Option Letter} None (Some y) =
        sym new ∙ ap (λ z. found z ms) (names_law l.name x e) ∙ there in
        absurd (cc)
    choose false e = there

pub keeps_all : (ls ms : List Letter) (x : Name) (y : Letter) → AreNew ls ms → found x ms ≡ Some y →
    found x (all_placed ls ms) ≡ Some y
keeps_all [] ms x y new there = there
keeps_all (l ∷ ls) ms x y new there =
    keeps_all ls (placed l ms) x y new.1 (keeps_placed l ms x y new.0 there)

pub finds_all : (ls ms : List Letter) (y : Letter) → AreNew ls ms → Has ls y →
    found y.name (all_placed ls ms) ≡ Some y
finds_all [] ms y new h = absurd h
finds_all (l ∷ ls) ms y new (inl is) =
    keeps_all ls (placed l ms) y.name y new.1
    (placed_law l ms y.name
    ∙ ap (λ b. if b then Some l else found y.name ms)
    (ap (λ (q : Letter). same_name q.name y.name) is ∙ same_as_self y.name)
    ∙ ap (λ q. Some q) is)
finds_all (l ∷ ls) ms y new (inr h) = finds_all ls (placed l ms) y new.1 h

-- a message that was found is the one taken out, or is found still
left_or_taken : (x : Name) (l : Letter) (ms : List Letter) (y : Letter) (b : Bool) → same_name x y.name ≡ b →
    found x ms ≡ Some l → found y.name ms ≡ Some y →
    (l ≡ y) ⊎ ((if b then None else found y.name ms) ≡ Some y)
left_or_taken x l ms y true e there here =
    let one : Some l ≡ Some y = sym there ∙ ap (λ z. found z ms) (names_law x y.name e) ∙ here in
    inl (let same : l ≡ y = cc in same)
left_or_taken x l ms y false e there here = inr here

-- none is there twice
abbrev NotTaken : Skeleton → Letter → Type 0
NotTaken k l = has_name l.name k.taken ≡ false

once_not : (ls : List Letter) (x : Name) → ((l : Letter) → Has ls l → same_name l.name x ≡ false) →
    Contains (names_of ls) x → ⊥
once_not ls x apart c = not_has ls apart (has_from_contains (names_of ls) x c)
  where
    not_has : (qs : List Letter) → ((l : Letter) → Has qs l → same_name l.name x ≡ false) → Has (names_of qs) x → ⊥
    not_has [] all h = h
    not_has (q ∷ qs) all (inl is) =
        false≢true (sym (all q (inl refl)) ∙ subst (λ z. same_name q.name z ≡ true) is (same_as_self q.name))
    not_has (q ∷ qs) all (inr h) = not_has qs (λ l there. all l (inr there)) h

module _ (work : Work) (sound : State → Type 0) (lawful : IsLawful work sound) (split : Split)
    (parts : List PlainPart) (one : IsOneRun parts) where
  pub few : length parts ≤ 64
  few = parts_few parts one

  -- what events from a world deliver: what was under way before, and what they send
  record Delivers (w : World) (k : Skeleton) (es : List Event) : Type 0 where
    pub from : (l : Letter) → Has (taken_in work w es) l →
        (found l.name w.under_way ≡ Some l) ⊎ Has (sent_in work w es) l
    pub once : EachOnce (names_of (taken_in work w es))
    pub new : (l : Letter) → Has (taken_in work w es) l → NotTaken k l
    pub all : finished (after work w es) ≡ true → (l : Letter) →
        (found l.name w.under_way ≡ Some l) ⊎ Has (sent_in work w es) l → Has (taken_in work w es) l

  none_delivers : (w : World) (t : IsTied sound split parts w) → Delivers w t.k []
  none_delivers w t = record {
    from = λ l h. absurd h;
    once = tt;
    new = λ l h. absurd h;
    all = λ over l there.
        ⊎_elim
        (λ (flies : found l.name w.under_way ≡ Some l).
        let none : ◌≡◌ {A = Option Letter} None (Some l) =
        sym (ap (found l.name) (empty work sound lawful split parts one w t over)) ∙ flies in
        absurd (cc))
        (λ (sent : ⊥). sent) there;
  }

  module _ (w : World) (t : IsTied sound split parts w) (m : ℕ) (s : State) (here : slice_get w.sites m ≡ Some s)
      (can : can_act (Some s) ≡ true) (es : List Event) where
    abbrev gone : World
    gone = cluster.go_at work w m (Some s)

    abbrev next : Skeleton
    next = go.next work sound lawful split parts few one w t.k t.alike t.reached m s here can

    abbrev pub go_tied : IsTied sound split parts gone
    go_tied = record {
      k = next;
      reached = go.next_reached work sound lawful split parts few one w t.k t.alike t.reached m s here can;
      alike = go.gone_tied work sound lawful split parts few one w t.k t.alike t.reached m s here can;
    }

    new : AreNew (work.sent s) w.under_way
    new = go.sent_new work sound lawful split parts few one w t.k t.alike t.reached m s here can

    -- the events behind a go deliver what it sends, too
    from_before : (l : Letter) → (found l.name gone.under_way ≡ Some l) ⊎ Has (sent_in work gone es) l →
        (found l.name w.under_way ≡ Some l) ⊎ Has (work.sent s ++ sent_in work gone es) l
    from_before l (inl flies) =
        ⊎_elim
        (λ (old : found l.name w.under_way ≡ Some l). inl old)
        (λ (sent : Has (work.sent s) l). inr (has_left (work.sent s) (sent_in work gone es) l sent))
        (all_placed_is l.name (work.sent s) w.under_way l flies)
    from_before l (inr sent) = inr (has_right (work.sent s) (sent_in work gone es) l sent)

    to_behind : (l : Letter) → (found l.name w.under_way ≡ Some l) ⊎ Has (work.sent s ++ sent_in work gone es) l →
        (found l.name gone.under_way ≡ Some l) ⊎ Has (sent_in work gone es) l
    to_behind l (inl flies) = inl (keeps_all (work.sent s) w.under_way l.name l new flies)
    to_behind l (inr sent) =
        ⊎_elim
        (λ (now : Has (work.sent s) l). inl (finds_all (work.sent s) w.under_way l new now))
        (λ (later : Has (sent_in work gone es) l). inr later)
        (has_append_cases (work.sent s) (sent_in work gone es) l sent)

  module _ (w : World) (t : IsTied sound split parts w) (m : ℕ) where
    go_delivers : (o : Option State) (es : List Event) → slice_get w.sites m ≡ o → can_act o ≡ true →
        ((v : World) (u : IsTied sound split parts v) → all_possible work v es ≡ true → Delivers v u.k es) →
        all_possible work (cluster.go_at work w m o) es ≡ true → Delivers w t.k (plain.Go m ∷ es)
    go_delivers None es here can rest more = absurd (false≢true can)
    go_delivers (Some s) es here can rest more =
        let v : World = cluster.go_at work w m (Some s) in
        let d = rest v (go_tied w t m s here can es) more in
        let is : step work w (plain.Go m) ≡ v = ap (cluster.go_at work w m) here in
        let sent : sent_in work w (plain.Go m ∷ es) ≡ work.sent s ++ sent_in work v es =
        ap (λ q. sent_with work (slice_get w.sites m) ++ sent_in work q es) is
        ∙ ap (λ o. sent_with work o ++ sent_in work v es) here in
        let taken : taken_in work w (plain.Go m ∷ es) ≡ taken_in work v es = ap (λ q. taken_in work q es) is in
        record {
          from = λ l h.
              subst (λ ls. (found l.name w.under_way ≡ Some l) ⊎ Has ls l) (sym sent)
              (from_before w t m s here can es l (d.from l (subst (λ ls. Has ls l) taken h)));
          once = subst (λ ls. EachOnce (names_of ls)) (sym taken) d.once;
          new = λ l h. d.new l (subst (λ ls. Has ls l) taken h);
          all = λ over l there.
              subst (λ ls. Has ls l) (sym taken)
              (d.all (subst (λ q. finished (after work q es) ≡ true) is over) l
              (to_behind w t m s here can es l
              (subst (λ ls. (found l.name w.under_way ≡ Some l) ⊎ Has ls l) sent there)));
        }

  module _ (w : World) (t : IsTied sound split parts w) (x : Name) where
    take_delivers : (o : Option Letter) (es : List Event) → found x w.under_way ≡ o → is_some o ≡ true →
        ((v : World) (u : IsTied sound split parts v) → all_possible work v es ≡ true → Delivers v u.k es) →
        all_possible work (step work w (plain.Take x)) es ≡ true → Delivers w t.k (plain.Take x ∷ es)
    take_delivers None es there can rest more = absurd (false≢true can)
    take_delivers (Some l) es there can rest more =
        let k : Skeleton = t.k in
        let j : Skeleton = take.next work sound lawful split parts few one w k t.alike t.reached x l there in
        let v : World = take.gone work sound lawful split parts few one w k t.alike t.reached x l there in
        let is : step work w (plain.Take x) ≡ v =
        take.gone_is work sound lawful split parts few one w k t.alike t.reached x l there in
        let u : IsTied sound split parts v = record {
          k = j;
          reached = take.next_reached work sound lawful split parts few one w k t.alike t.reached x l there;
          alike = take.gone_tied work sound lawful split parts few one w k t.alike t.reached x l there;
        } in
        let d = rest v u (subst (λ q. all_possible work q es ≡ true) is more) in
        let named : l.name ≡ x = found_name x w.under_way l there in
        let own : found l.name w.under_way ≡ Some l = ap (λ z. found z w.under_way) named ∙ there in
        let sent : sent_in work w (plain.Take x ∷ es) ≡ sent_in work v es = ap (λ q. sent_in work q es) is in
        let taken : taken_in work w (plain.Take x ∷ es) ≡ l ∷ taken_in work v es =
        ap (λ q. taken_at (found x w.under_way) ++ taken_in work q es) is
        ∙ ap (λ o. taken_at o ++ taken_in work v es) there in
        let later : (q : Letter) → Has (taken_in work v es) q →
        (same_name q.name x ≡ false) × (has_name q.name k.taken ≡ false) =
        λ q h. not_either (same_name q.name x) (has_name q.name k.taken) (d.new q h) in
        record {
          from = λ q h.
              subst (λ ls. (found q.name w.under_way ≡ Some q) ⊎ Has ls q) (sym sent)
              (⊎_elim
              (λ (first : l ≡ q). inl (subst (λ z. found z.name w.under_way ≡ Some z) first own))
              (λ (h : Has (taken_in work v es) q).
              ⊎_elim
              (λ (flies : found q.name v.under_way ≡ Some q).
              inl (without_is x q.name w.under_way q t.alike.ascends flies))
              (λ (s : Has (sent_in work v es) q). inr s)
              (d.from q h))
              (subst (λ ls. Has ls q) taken h));
          once =
              subst (λ ls. EachOnce (names_of ls)) (sym taken) (
                once_not (taken_in work v es) l.name
                    (λ q h. subst (λ z. same_name q.name z ≡ false) (sym named) (later q h).0),
                d.once,
              );
          new = λ q h.
              ⊎_elim
              (λ (first : l ≡ q).
              subst (λ z. has_name z.name k.taken ≡ false) first
              (ap (λ z. has_name z k.taken) named
              ∙ (take.can work sound lawful split parts few one w k t.alike t.reached x l there).new))
              (λ (h : Has (taken_in work v es) q). (later q h).1)
              (subst (λ ls. Has ls q) taken h);
          all = λ over q where_it_is.
              let still = d.all (subst (λ q. finished (after work q es) ≡ true) is over) q in
              subst (λ ls. Has ls q) (sym taken)
              (⊎_elim
              (λ (flies : found q.name w.under_way ≡ Some q).
              ⊎_elim
              (λ (first : l ≡ q). inl first)
              (λ (left : (if same_name x q.name then None else found q.name w.under_way) ≡ Some q).
              inr (still (inl (taken_law x w.under_way q.name t.alike.ascends ∙ left))))
              (left_or_taken x l w.under_way q (same_name x q.name) refl there flies))
              (λ (s : Has (sent_in work v es) q). inr (still (inr s)))
              (subst (λ ls. (found q.name w.under_way ≡ Some q) ⊎ Has ls q) sent where_it_is));
        }

  delivers : (es : List Event) (w : World) (t : IsTied sound split parts w) → all_possible work w es ≡ true →
      Delivers w t.k es
  delivers [] w t can = none_delivers w t
  delivers (plain.Go m ∷ es) w t can =
      let both = and_parts (possible w (plain.Go m)) (all_possible work (step work w (plain.Go m)) es) can in
      go_delivers w t m (slice_get w.sites m) es refl both.0 (λ v u more. delivers es v u more) both.1
  delivers (plain.Take x ∷ es) w t can =
      let both = and_parts (possible w (plain.Take x)) (all_possible work (step work w (plain.Take x)) es) can in
      take_delivers w t x (found x w.under_way) es refl both.0 (λ v u more. delivers es v u more) both.1

  pub delivered_once : (w : World) (t : IsTied sound split parts w) (es : List Event) → w.under_way ≡ [] →
      all_possible work w es ≡ true → IsDeliveredOnce work w (after work w es) es
  delivered_once w t es still can =
      let d = delivers es w t can in
      record {
        as_sent = λ l c.
            ⊎_elim
            (λ (flies : found l.name w.under_way ≡ Some l).
            let none : ◌≡◌ {A = Option Letter} None (Some l) = sym (ap (found l.name) still) ∙ flies in
            absurd (cc))
            (λ (s : Has (sent_in work w es) l). contains_from_has (sent_in work w es) l s)
            (d.from l (has_from_contains (taken_in work w es) l c));
        once = d.once;
        all = λ over l c.
            contains_from_has (taken_in work w es) l
            (d.all over l (inr (has_from_contains (sent_in work w es) l c)));
      }
