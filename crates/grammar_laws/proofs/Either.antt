-- Choices by the first token, parts that may be missing, and nodes.
use Rattle.std.proofs.Common.{◌≡◌, ℕ, suc, pred, ◌≤◌, Bool, true, false, cond, eqb, List, [], ◌∷◌, ◌++◌, Option, None, Some, Ok, refl, sym, ap, subst, ◌∙◌, arith, inl, inr, ◌⊎◌}
use Rattle.std.proofs.lemmas.Bool.{eqb-true, eqb-false, eq-eqb, ne_eqb}
use Rattle.std.proofs.lemmas.List.{append-nil}
use Rattle.vert_base.specs.declared.text.Span.{Span}
use Rattle.vert_lex.specs.Text.{Placed}
use Rattle.vert_lex.specs.Tokens.{Kind}
use Rattle.vert_grammar.specs.Grammar.{Form, Limits, Maybe, Given}
use Rattle.vert_grammar.specs.Faults.{Why, Unexpected, TooDeep}
use Rattle.vert_grammar.specs.Reading.{Stop, Parser, stop, begins, if_begins, unless, maybe, node}
use Rattle.vert_grammar.specs.Signs.{token, same}
use Rattle.grammar_laws.specs.Notions.{Covers, deep, inside, SameHead, Notion, Took, Sound, Complete, Front, Any, Fault, First, HasWord, IsReader, only, IsNode, SoundWhere, FirstWhere}
use Rattle.grammar_laws.proofs.Readers.{bind_err, chosen, ok_is, err_is, not_ok, same_behind, begins_same, grows_covers, grows_inside, carry}
use Rattle.vert_grammar.proofs.Steps.{bind_ok}
use Rattle.grammar_laws.proofs.Signs.{same-true}

-- ---- a choice by the first token
module _ {A : Type 0} (K : Notion A) (f : Kind → Bool) where
  pub either_sound : (l : Limits) (p q : Parser A) → SoundWhere f K l p → Sound K l q → Sound K l (if_begins f p q)
  either_sound l p q hp hq ts x r e = elim (chosen (begins f ts) _ _ _ e) [
    | inl h ↦ hp ts x r h.0 h.1
    | inr h ↦ hq ts x r h.1
  ]

  -- a fault of the reader that was chosen
  module _ (run other : Limits → Parser A) (l : Limits) (ts : List Placed) (s : Stop) (v : Bool) where
    side : ((m : Limits) (us : List Placed) → begins f us ≡ v → run m us ≡ other m us) → begins f ts ≡ v →
        Fault K other l ts s → Fault K run l ts s
    side goes e g =
        carry K K other run (λ m. m) l ts [] s g (λ m c. c) (λ u w. w) (λ u w. w) (λ u w. w)
        (λ m u more w c sh parts k. goes m (u ++ more)
        (begins_same f (u ++ more) (u ++ s.rest) (same_behind u more s.rest sh) ∙ ap (begins f) (sym parts) ∙ e) ∙ k)

  pub either_first : (l : Limits) (p q : Limits → Parser A) → FirstWhere f K p l → First K q l →
      First K (λ m. if_begins f (p m) (q m)) l
  either_first l p q hp hq ts s e = elim (chosen (begins f ts) _ _ _ e) [
    | inl h ↦ side (λ m. if_begins f (p m) (q m)) p l ts s true (λ m us k. rw k refl) h.0 (hp ts s h.0 h.1)
    | inr h ↦ side (λ m. if_begins f (p m) (q m)) q l ts s false (λ m us k. rw k refl) h.0 (hq ts s h.1)
  ]

  pub goes_first : (p q : Parser A) (ts : List Placed) → begins f ts ≡ true → if_begins f p q ts ≡ p ts
  goes_first p q ts e = rw e refl

  pub goes_second : (p q : Parser A) (ts : List Placed) → begins f ts ≡ false → if_begins f p q ts ≡ q ts
  goes_second p q ts e = rw e refl

-- where nothing begins
module _ {A : Type 0} (K : Notion A) where
  pub none_sound : (l : Limits) → Sound K l (stop Unexpected)
  none_sound l ts x r e = absurd cc

  pub none_first : (l : Limits) → HasWord K l → First K (λ m. stop Unexpected) l
  none_first l word ts s e = subst (Fault K (λ m. stop Unexpected) l ts) (err_is (A × List Placed) _ _ e) (record {
    used = [];
    parts = refl;
    front = (word.1, word.0, word.2, word.3);
    stays = λ m more c sh. refl;
    beyond = tt;
  })

-- two sorts of values, which begin differently
module _ {A : Type 0} (K : Notion A) (P Q : A → Type 0) (f : Kind → Bool) (p q : Limits → Parser A) where
  took : (S : A → Type 0) (l : Limits) (ts : List Placed) (x : A) (r : List Placed) → Took (only K S) l ts x r →
      Took K l ts x r
  took S l ts x r t = record { used = t.used; parts = t.parts; reads = t.reads.0; fits = t.fits; ends = t.ends }

  fault : (S : A → Type 0) (run : Limits → Parser A) (l : Limits) (ts : List Placed) (s : Stop) →
      Fault (only K S) run l ts s → Fault K run l ts s
  fault S run l ts s g =
      carry (only K S) K run run (λ m. m) l ts [] s g (λ m c. c) (widen (K.within l)) (widen (K.shallow l.depth))
      (widen Any) (λ m u more w c sh parts k. k)
    where
      widen : (W : A → Type 0) (u : List Placed) → Front (λ x u. K.form x u × S x) W u → Front K.form W u
      widen W u w = (w.0, w.1, w.2.0, w.3)

  pub either_reader : IsReader (only K P) p → IsReader (only K Q) q
      → ((x : A) (u : List Placed) → K.form x u → (P x × ((r : List Placed) → begins f (u ++ r) ≡ true)) ⊎
      (Q x × ((r : List Placed) → begins f (u ++ r) ≡ false)))
      → IsReader K (λ l. if_begins f (p l) (q l))
  either_reader hp hq split = record {
    sound = λ l. either_sound K f l (p l) (q l) (λ ts x r b e. took P l ts x r (hp.sound l ts x r e)) (λ ts x r e.
        took Q l ts x r (hq.sound l ts x r e));
    complete = λ l x u r h w e. elim (split x u h) [
      | inl s ↦ goes_first K f (p l) (q l) (u ++ r) (s.1 r) ∙ hp.complete l x u r (h, s.0) w e
      | inr s ↦ goes_second K f (p l) (q l) (u ++ r) (s.1 r) ∙ hq.complete l x u r (h, s.0) w e
    ];
    first = λ l pos. either_first K f l p q (λ ts s b e. fault P p l ts s (hp.first l pos ts s e)) (λ ts s e.
        fault Q q l ts s (hq.first l pos ts s e));
    word = λ l pos. let w = hp.word l pos in (w.0, w.1, w.2.0, w.3);
  }

-- ---- once or not
abbrev pub MaybeEnds : {A : Type 0} → Notion A → (Kind → Bool) → Option A → Form
MaybeEnds N f None r = begins f r ≡ false
MaybeEnds N f (Some x) r = N.follow x r

pub given_wider : {A : Type 0} (N : Notion A) (l m : Limits) (x : Option A) → Covers l m → Given (N.within l) x →
    Given (N.within m) x
given_wider N l m None c h = tt
given_wider N l m (Some x) c h = N.wider l m x c h

pub given_weaker : {A : Type 0} (N : Notion A) (l : Limits) (x : Option A) → Given (N.within l) x →
    Given (N.shallow l.depth) x
given_weaker N l None h = tt
given_weaker N l (Some x) h = N.weaker l x h

pub maybe_ahead : {A : Type 0} (N : Notion A) (f : Kind → Bool) (x : Option A) (a b : List Placed) → SameHead a b →
    MaybeEnds N f x b → MaybeEnds N f x a
maybe_ahead N f None a b sh h = begins_same f a b sh ∙ h
maybe_ahead N f (Some x) a b sh h = N.ahead x a b sh h

abbrev pub maybe_notion : {A : Type 0} → Notion A → (Kind → Bool) → Notion (Option A)
maybe_notion N f = record {
  form = Maybe N.form;
  within = λ l. Given (N.within l);
  shallow = λ b. Given (N.shallow b);
  follow = MaybeEnds N f;
  wider = given_wider N;
  weaker = given_weaker N;
  ahead = maybe_ahead N f;
}

module _ {A : Type 0} (N : Notion A) (f : Kind → Bool) (opens : (x : A) (u r : List Placed) → N.form x u →
    begins f (u ++ r) ≡ true) where
  pub maybe_sound : (l : Limits) (p : Parser A) → Sound N l p → Sound (maybe_notion N f) l (maybe f p)
  maybe_sound l p h ts x r e = elim (chosen (begins f ts) _ _ _ e) [
    | inl g ↦
        let s = bind_ok (p ts) (λ y. Ok (Some y.0, y.1)) (x, r) g.1 in
        let t = h ts s.0.0 s.0.1 s.1 in
        subst (λ (w : Option A × List Placed). Took (maybe_notion N f) l ts w.0 w.1) (ok_is _ _ s.2)
        (record { used = t.used; parts = t.parts; reads = t.reads; fits = t.fits; ends = t.ends })
    | inr g ↦ subst (λ (w : Option A × List Placed). Took (maybe_notion N f) l ts w.0 w.1) (ok_is _ _ g.1)
        (record { used = []; parts = refl; reads = refl; fits = tt; ends = g.0 })
  ]

  pub maybe_complete : (l : Limits) (p : Parser A) → Complete N l p → Complete (maybe_notion N f) l (maybe f p)
  maybe_complete l p h None u r form w e = rw (form, e) refl
  maybe_complete l p h (Some x) u r form w e =
      let o = opens x u r form in
      let k = h x u r form w e in
      rw (o, k) refl

  pub maybe_first : (l : Limits) (p : Limits → Parser A) → First N p l → First (maybe_notion N f) (λ m. maybe f (p m)) l
  maybe_first l p h ts s e = elim (chosen (begins f ts) _ _ _ e) [
    | inr g ↦ absurd (let q = g.1 in cc)
    | inl g ↦ elim (bind_err (p l ts) (λ y. Ok (Some y.0, y.1)) s g.1) [
      | inr q ↦ absurd (let z = q.2 in cc)
      | inl q ↦ carry N (maybe_notion N f) p (λ m. maybe f (p m)) (λ m. m) l ts [] s (h ts s q) (λ m c. c)
          (λ u w. (w.0, Some w.1, w.2, w.3))
          (λ u w. (w.0, Some w.1, w.2, w.3))
          (λ u w. (w.0, Some w.1, w.2, tt))
          (λ m u more w c sh parts k.
          let o : begins f (u ++ more) ≡ true = begins_same f (u ++ more) (u ++ s.rest) (same_behind u more s.rest sh)
          ∙ ap (begins f) (sym parts) ∙ g.0 in
          rw (o, k) refl)
    ]
  ]

  pub maybe_reader : (p : Limits → Parser A) → IsReader N p → IsReader (maybe_notion N f) (λ l. maybe f (p l))
  maybe_reader p h = record {
    sound = λ l. maybe_sound l (p l) (h.sound l);
    complete = λ l. maybe_complete l (p l) (h.complete l);
    first = λ l pos. maybe_first l p (h.first l pos);
    word = λ l pos. (None, [], refl, tt);
  }

-- ---- nothing of a sort may follow
abbrev pub unless_notion : {A : Type 0} → Notion A → (Kind → Bool) → Notion A
unless_notion N f = record {
  form = N.form;
  within = N.within;
  shallow = N.shallow;
  follow = λ x r. N.follow x r × (begins f r ≡ false);
  wider = N.wider;
  weaker = N.weaker;
  ahead = λ x a b h g. (N.ahead x a b h g.0, begins_same f a b h ∙ g.1);
}

module _ {A : Type 0} (N : Notion A) (f : Kind → Bool) where
  pub unless_sound : (l : Limits) (p : Parser A) → Sound N l p → Sound (unless_notion N f) l (unless f p)
  unless_sound l p h ts x r e =
      let s = bind_ok (p ts) (λ y. cond (begins f y.1) (stop Unexpected y.1) (Ok y)) (x, r) e in
      let t = h ts s.0.0 s.0.1 s.1 in
      elim (chosen (begins f s.0.1) _ _ _ s.2) [
        | inl g ↦ absurd (let q = g.1 in cc)
        | inr g ↦ subst (λ (w : A × List Placed). Took (unless_notion N f) l ts w.0 w.1) (ok_is _ _ g.1)
            (record { used = t.used; parts = t.parts; reads = t.reads; fits = t.fits; ends = (t.ends, g.0) })
      ]

  pub unless_complete : (l : Limits) (p : Parser A) → Complete N l p → Complete (unless_notion N f) l (unless f p)
  unless_complete l p h x u r form w e =
      let k = h x u r form w e.0 in
      let g = e.1 in
      rw (k, g) refl

  pub unless_first : (l : Limits) (p : Limits → Parser A) → Sound N l (p l) →
      ((m : Limits) → Covers l m → Complete N m (p m)) → First N p l → First (unless_notion N f) (λ m. unless f (p m)) l
  unless_first l p hs hc hf ts s e = elim (bind_err (p l ts) (λ y. cond (begins f y.1) (stop Unexpected y.1) (Ok y)) s
      e) [
        | inl g ↦ carry N (unless_notion N f) p (λ m. unless f (p m)) (λ m. m) l ts [] s (hf ts s g) (λ m c. c)
            (λ u w. w)
            (λ u w. w) (λ u w. w) (λ m u more w c sh parts k. rw k refl)
        | inr g ↦ elim (chosen (begins f g.0.1) _ _ _ g.2) [
          | inr q ↦ absurd (not_ok _ _ q.1)
          | inl q ↦ subst (Fault (unless_notion N f) (λ m. unless f (p m)) l ts) (err_is (A × List Placed) _ _ q.1)
              (refused g.0 (hs ts g.0.0 g.0.1 g.1) q.0)
        ]
      ]
    where
      refused : (y : A × List Placed) → Took N l ts y.0 y.1 → begins f y.1 ≡ true →
          Fault (unless_notion N f) (λ m. unless f (p m)) l ts (record { why = Unexpected; rest = y.1 })
      refused y t b = record {
        used = t.used;
        parts = t.parts;
        front = ([], y.0, subst (N.form y.0) (sym (append-nil t.used)) t.reads, t.fits);
        stays = λ m more c sh.
            let k : p m (t.used ++ more) ≡ Ok (y.0, more) =
            hc m c y.0 t.used more t.reads (N.wider l m y.0 c t.fits) (N.ahead y.0 more y.1 sh t.ends) in
            let o : begins f more ≡ true = begins_same f more y.1 sh ∙ b in
            rw (k, o) refl;
        beyond = tt;
      }

-- ---- nodes
module _ {A B : Type 0} (N : Notion A) (K : Notion B) (k : Kind) (f : Span → A → B) (i : IsNode N K k f) where
  pub node_sound : (l : Limits) (b : ℕ) (p : Parser A) → Sound N (deep l b) p →
      SoundWhere (λ x. same x k) K (deep l (suc b)) (node b f p)
  node_sound l b p h [] x r o e = absurd cc
  node_sound l b p h (t ∷ ts) x r o e = elim (chosen (eqb b 0) _ _ _ e) [
    | inl g ↦ absurd (let q = g.1 in cc)
    | inr g ↦
        let s = bind_ok (p ts) (λ y. Ok (f t.span y.0, y.1)) (x, r) g.1 in
        let w = h ts s.0.0 s.0.1 s.1 in
        subst (λ (z : B × List Placed). Took K (deep l (suc b)) (t ∷ ts) z.0 z.1) (ok_is _ _ s.2) (record {
          used = token t.span k ∷ w.used;
          parts = ap (λ (y : Kind). token t.span y ∷ ts) (same-true t.kind k o) ∙ ap (λ l. token t.span k ∷ l) w.parts;
          reads = i.form t.span s.0.0 w.used w.reads;
          fits = i.within l b t.span s.0.0 w.fits;
          ends = i.follow t.span s.0.0 s.0.1 w.ends;
        })
  ]

  pub node_goes : (b : ℕ) (p : Parser A) (t : Placed) (ts : List Placed) (y : A) (r : List Placed) → 1 ≤ b →
      p ts ≡ Ok (y, r) → node b f p (t ∷ ts) ≡ Ok (f t.span y, r)
  node_goes b p t ts y r pos e = let z : eqb b 0 ≡ false = ne_eqb b 0 (λ q. omega arith) in rw (z, e) refl

  pub node_first : (l : Limits) (b : ℕ) (p : Limits → Parser A) → (1 ≤ b → First N p (deep l b)) →
      HasWord K (deep l (suc b)) → (y : A) (v : List Placed) → N.form y v
      → FirstWhere (λ x. same x k) K (λ m. node (pred m.depth) f (p (inside m))) (deep l (suc b))
  node_first l b p first word y v hy [] s o e = absurd cc
  node_first l b p first word y v hy (t ∷ ts) s o e = elim (chosen (eqb b 0) _ _ _ e) [
    | inl g ↦ subst (Fault K (λ m. node (pred m.depth) f (p (inside m))) (deep l (suc b)) (t ∷ ts))
        (err_is (B × List Placed) _ _ g.1) (record {
          used = [];
          parts = refl;
          front = (word.1, word.0, word.2, word.3);
          stays = λ m more c sh. deep_stays m more c.0 (eqb-true b 0 g.0);
          beyond = (
            v,
            f t.span y,
            subst (λ (z : Kind). K.form (f t.span y) (token t.span z ∷ v))
                (sym (same-true t.kind k o)) (i.form t.span y v hy),
            tt,
          );
        })
    | inr g ↦ elim (bind_err (p (deep l b) ts) (λ x. Ok (f t.span x.0, x.1)) s g.1) [
      | inr q ↦ absurd (let z = q.2 in cc)
      | inl q ↦
          let pos : 1 ≤ b = (let z = eqb-false b 0 g.0 in omega arith) in
          carry N K p (λ m. node (pred m.depth) f (p (inside m))) inside (deep l (suc b)) ts (t ∷ []) s
          (first pos ts s q) (λ m c. grows_inside s.why (deep l (suc b)) m c)
          (λ u w. (w.0, f t.span w.1, behind w.1 (u ++ w.0) w.2, i.within l b t.span w.1 w.3))
          (λ u w. (w.0, f t.span w.1, behind w.1 (u ++ w.0) w.2, i.shallow b t.span w.1 w.3))
          (λ u w. (w.0, f t.span w.1, behind w.1 (u ++ w.0) w.2, tt))
          (λ m u more w c sh parts z. in_stays m (u ++ more) more w
          (let d = (grows_covers w (deep l (suc b)) m c).depth in omega arith) z)
    ]
  ]
    where
      behind : (x : A) (u : List Placed) → N.form x u → K.form (f t.span x) (t ∷ u)
      behind x u h = subst (λ (z : Kind). K.form (f t.span x) (token t.span z ∷ u)) (sym (same-true t.kind k o))
          (i.form t.span x u h)

      deep_stays : (m : Limits) (more : List Placed) → suc b ≡ m.depth → b ≡ 0 →
          node (pred m.depth) f (p (inside m)) more ≡ stop TooDeep more
      deep_stays m more d z = let q : eqb (pred m.depth) 0 ≡ true = eq-eqb (pred m.depth) 0 (sym (ap pred d) ∙ z) in
          rw q refl

      in_stays : (m : Limits) (us more : List Placed) (w : Why) → 2 ≤ m.depth → p (inside m) us ≡ stop w more →
          node (pred m.depth) f (p (inside m)) (t ∷ us) ≡ stop w more
      in_stays m us more w two q = let z : eqb (pred m.depth) 0 ≡ false = ne_eqb (pred m.depth) 0 (λ i. omega arith)
          in rw (z, q) refl
