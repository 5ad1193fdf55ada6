-- Readers made of readers.
use Rattle.std.proofs.Common.{◌≡◌, ℕ, ◌≤◌, Bool, true, List, [], ◌∷◌, ◌++◌, length, Ok, refl, sym, ap, subst, ◌∙◌, arith, inl, inr}
use Rattle.vert_lex.specs.Text.{Placed}
use Rattle.vert_lex.specs.Tokens.{Kind}
use Rattle.vert_grammar.specs.Grammar.{Limits}
use Rattle.vert_grammar.specs.Reading.{Parser, both_by, both, made, begins, up_to, many}
use Rattle.grammar_laws.specs.Notions.{Covers, Mono, Notion, Took, Sound, Complete, First, IsReader, FollowsBy, Follows, both_by_notion, both_notion, IsImage, IsInto}
use Rattle.grammar_laws.proofs.Readers.{covers_refl, grows_covers, bind_err, ok_is, carry, both_sound, both_complete, both_first}
use Rattle.vert_grammar.proofs.Steps.{bind_ok}
use Rattle.grammar_laws.proofs.Lists.{list_notion, up_to_sound, up_to_complete, up_to_first}
use Rattle.grammar_laws.proofs.Many.{all_notion, many_sound, many_complete, many_first}

-- ---- one after the other
pub both_by_reader : {A B : Type 0} (N : Notion A) (M : A → Notion B) (p : Limits → Parser A) (q : A → Limits →
    Parser B) → FollowsBy N M → IsReader N p → ((x : A) → IsReader (M x) (q x))
    → IsReader (both_by_notion N M) (λ l. both_by (p l) (λ x. q x l))
both_by_reader N M p q fol hp hq = record {
  sound = λ l. both_sound N M l (p l) (λ x. q x l) (hp.sound l) (λ x. (hq x).sound l);
  complete = λ l. both_complete N M l (p l) (λ x. q x l) fol (hp.complete l) (λ x. (hq x).complete l);
  first = λ l pos. both_first N M l p q fol (λ x. (hq x).word l pos) (hp.sound l) (λ m c. hp.complete m)
      (hp.first l pos) (λ x. (hq x).first l pos);
  word = λ l pos.
      let x = hp.word l pos in
      let y = (hq x.0).word l pos in (
        (x.0, y.0),
        x.1 ++ y.1,
        record { front = x.1; back = y.1; whole = refl; first = x.2; second = y.2 },
        (x.3, y.3),
      );
}

pub both_reader : {A B : Type 0} (N : Notion A) (M : Notion B) (p : Limits → Parser A) (q : Limits → Parser B) →
    Follows N M → IsReader N p → IsReader M q → IsReader (both_notion N M) (λ l. both (p l) (q l))
both_reader N M p q fol hp hq = both_by_reader N (λ x. M) p (λ x. q) fol hp (λ x. hq)

-- ---- one value for another
module _ {A B : Type 0} (N : Notion A) (M : Notion B) (g : A → B) where
  pub into_sound : (l : Limits) → IsInto N M g l → (p : Parser A) → Sound N l p → Sound M l (made g p)
  into_sound l i p h ts y r e =
      let s = bind_ok (p ts) (λ x. Ok (g x.0, x.1)) (y, r) e in
      let t = h ts s.0.0 s.0.1 s.1 in
      subst (λ (w : B × List Placed). Took M l ts w.0 w.1) (ok_is _ _ s.2)
      (record {
        used = t.used;
        parts = t.parts;
        reads = i.form s.0.0 t.used t.reads;
        fits = i.within s.0.0 t.used t.reads t.fits;
        ends = i.follow s.0.0 t.used s.0.1 t.reads t.ends;
      })

  pub into_first : (l : Limits) → IsInto N M g l → (p : Limits → Parser A) → First N p l → First M (λ m. made g (p m)) l
  into_first l i p h ts s e = elim (bind_err (p l ts) (λ x. Ok (g x.0, x.1)) s e) [
    | inr q ↦ absurd (let z = q.2 in cc)
    | inl q ↦ carry N M p (λ m. made g (p m)) (λ m. m) l ts [] s (h ts s q) (λ m c. c)
        (λ u w. (w.0, g w.1, i.form w.1 (u ++ w.0) w.2, i.within w.1 (u ++ w.0) w.2 w.3))
        (λ u w. (w.0, g w.1, i.form w.1 (u ++ w.0) w.2, i.shallow w.1 (u ++ w.0) w.2 w.3))
        (λ u w. (w.0, g w.1, i.form w.1 (u ++ w.0) w.2, tt))
        (λ m u more w c sh parts z. rw z refl)
  ]

  pub made_complete : IsImage N M g → (l : Limits) (p : Parser A) → Complete N l p → Complete M l (made g p)
  made_complete i l p h y u r f w e =
      let x = i.back y u f in
      let k : p (u ++ r) ≡ Ok (x.0, r) = h x.0 u r x.2 (x.3 l w)
      (i.follow_back x.0 r (subst (λ (z : B). M.follow z r) (sym x.1) e)) in
      rw k (ap (λ (z : B). Ok (z, r)) x.1)

  into : IsImage N M g → (l : Limits) → IsInto N M g l
  into i l = record {
    form = i.form;
    within = λ x u h. i.within l x;
    shallow = λ x u h. i.shallow l.depth x;
    follow = λ x u r h. i.follow x r;
  }

  pub made_reader : (p : Limits → Parser A) → IsImage N M g → IsReader N p → IsReader M (λ l. made g (p l))
  made_reader p i h = record {
    sound = λ l. into_sound l (into i l) (p l) (h.sound l);
    complete = λ l. made_complete i l (p l) (h.complete l);
    first = λ l pos. into_first l (into i l) p (h.first l pos);
    word = λ l pos. let x = h.word l pos in (g x.0, x.1, i.form x.0 x.1 x.2, i.within l x.0 x.3);
  }

-- ---- lists
-- at most so many, each of which begins with a token of a sort; each such token begins one
module _ {A : Type 0} (N : Notion A) (f : Kind → Bool) (p : Limits → Parser A) (m : Limits → ℕ) (mono : Mono m) where
  pub up_to_reader : ((x : A) (r : List Placed) → N.follow x r) →
      ((x : A) (u r : List Placed) → N.form x u → begins f (u ++ r) ≡ true) →
      ((l : Limits) (t : Placed) → 1 ≤ l.depth → f t.kind ≡ true → (x : A) × (v : List Placed) × N.form x (t ∷
      v) × N.within l x) → IsReader N p → IsReader (list_notion N f m mono) (λ l. up_to f (p l) (m l))
  up_to_reader free opens word h = record {
    sound = λ l. up_to_sound N f free opens l (p l) (h.sound l) (m l) m mono refl;
    complete = λ l. up_to_complete N f free opens l (p l) (h.complete l) (m l) m mono refl;
    first = λ l pos. up_to_first N f free opens l p (h.sound l) (λ k c. h.complete k) (h.first l pos) (λ t e.
        word l t pos e) (m l) m mono refl;
    word = λ l pos. ([], [], refl, (tt, omega arith));
  }

-- any number, each of which begins with a token of a sort and may stand behind any other
pub many_reader : {A : Type 0} (N : Notion A) (f : Kind → Bool) (p : Limits → Parser A) →
    ((x y : A) (v r : List Placed) → N.form y v → N.follow x (v ++ r)) →
    ((x : A) (u r : List Placed) → N.form x u → begins f (u ++ r) ≡ true)
    → ((x : A) (u : List Placed) → N.form x u → 1 ≤ length u) → IsReader N p →
    IsReader (all_notion N f) (λ l. many f (p l))
many_reader N f p next opens solid h = record {
  sound = λ l. many_sound N f next opens solid l (p l) (h.sound l);
  complete = λ l. many_complete N f next opens solid l (p l) (h.sound l) (h.complete l);
  first = λ l pos. many_first N f next opens solid l p h.sound h.complete (h.first l pos);
  word = λ l pos. ([], [], refl, tt);
}

-- ---- the same reader seen as one of another notion
module _ {A : Type 0} (N M : Notion A) (l : Limits) (i : IsInto N M (λ x. x) l) where
  pub recast_sound : (p : Parser A) → Sound N l p → Sound M l p
  recast_sound p h ts x r e = let t = h ts x r e in
      record {
        used = t.used;
        parts = t.parts;
        reads = i.form x t.used t.reads;
        fits = i.within x t.used t.reads t.fits;
        ends = i.follow x t.used r t.reads t.ends;
      }

  -- a run that does the same under all wider limits
  pub recast_first : (p q : Limits → Parser A) → ((m : Limits) (us : List Placed) → Covers l m → q m us ≡ p m us) →
      First N p l → First M q l
  recast_first p q same h ts s e =
      carry N M p q (λ m. m) l ts [] s (h ts s (sym (same l ts (covers_refl l)) ∙ e)) (λ m c. c)
      (λ u w. (w.0, w.1, i.form w.1 (u ++ w.0) w.2, i.within w.1 (u ++ w.0) w.2 w.3))
      (λ u w. (w.0, w.1, i.form w.1 (u ++ w.0) w.2, i.shallow w.1 (u ++ w.0) w.2 w.3))
      (λ u w. (w.0, w.1, i.form w.1 (u ++ w.0) w.2, tt))
      (λ m u more w c sh parts z. same m (u ++ more) (grows_covers w l m c) ∙ z)
