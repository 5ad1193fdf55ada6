-- What version 2 alone has, and parts behind which what may follow depends on both.
use Rattle.std.proofs.Common.{◌≡◌, ℕ, zero, suc, Bool, false, List, [], ◌∷◌, ◌++◌, Option, None, Some, Ok, refl, sym, ap, subst, ◌∙◌, arith, append_assoc}
use Rattle.std.specs.Prelude.{IsTrue, ◌==◌}
use Rattle.vert_lex.specs.Text.{Placed}
use Rattle.vert_lex.specs.Tokens.{Kind}
use Rattle.vert_grammar.specs.Grammar.{Form, Limits, Each, Maybe, InTwo}
use Rattle.vert_grammar.specs.Reading.{Parser, ◌>>=◌, both, begins, up_to, maybe}
use Rattle.grammar_laws.specs.Notions.{Mono, SameHead, Notion, Took, Sound, First, IsReader, FollowsBy, both_by_notion}
use Rattle.grammar_laws.proofs.Readers.{ok_is, carry, both_complete, both_first}
use Rattle.vert_grammar.proofs.Steps.{bind_ok}
use Rattle.grammar_laws.proofs.Lists.{list_notion, up_to_zero, up_to_suc}
use Rattle.grammar_laws.proofs.Either.{maybe_notion}

-- ---- what may follow depends on both parts
module _ {A B : Type 0} (N : Notion A) (M : Notion B) (F : A × B → Form) (same : (z : A × B) (a b : List Placed) →
    SameHead a b → F z b → F z a) where
  -- the second part behind the first
  abbrev behind : A → Notion B
  behind x = record {
    form = M.form;
    within = M.within;
    shallow = M.shallow;
    follow = λ y r. M.follow y r × F (x, y) r;
    wider = M.wider;
    weaker = M.weaker;
    ahead = λ y a b sh h. (M.ahead y a b sh h.0, same (x, y) a b sh h.1);
  }

  abbrev pub chain_notion : Notion (A × B)
  chain_notion = both_by_notion N behind

  module _ (into : (x : A) (y : B) (v r : List Placed) → M.form y v → M.follow y r → F (x, y) r → N.follow x (v ++ r))
      (back : (x : A) (y : B) (v r : List Placed) → M.form y v → M.follow y r → N.follow x (v ++ r) → F (x, y) r) where
    chain_sound : (l : Limits) (p : Parser A) (q : Parser B) → Sound N l p → Sound M l q →
        Sound chain_notion l (both p q)
    chain_sound l p q hp hq ts z r e =
        let s1 = bind_ok (p ts) (λ x. q x.1 >>= λ y. Ok ((x.0, y.0), y.1)) (z, r) e in
        let x = s1.0 in
        let s2 = bind_ok (q x.1) (λ y. Ok ((x.0, y.0), y.1)) (z, r) s1.2 in
        let y = s2.0 in
        let t1 = hp ts x.0 x.1 s1.1 in
        let t2 = hq x.1 y.0 y.1 s2.1 in
        let t : Took chain_notion l ts (x.0, y.0) y.1 = record {
          used = t1.used ++ t2.used;
          parts = t1.parts ∙ ap (λ l. t1.used ++ l) t2.parts ∙ sym (append_assoc t1.used t2.used y.1);
          reads = record { front = t1.used; back = t2.used; whole = refl; first = t1.reads; second = t2.reads };
          fits = (t1.fits, t2.fits);
          ends = (t2.ends, back x.0 y.0 t2.used y.1 t2.reads t2.ends (subst (N.follow x.0) t2.parts t1.ends));
        } in
        subst (λ (w : (A × B) × List Placed). Took chain_notion l ts w.0 w.1) (ok_is _ _ s2.2) t

    follows : FollowsBy N behind
    follows x y v r h f = into x y v r h f.0 f.1

    fault : (q : Limits → Parser B) (x : A) (l : Limits) → First M q l → First (behind x) q l
    fault q x l h ts s e = carry M (behind x) q q (λ m. m) l ts [] s (h ts s e) (λ m c. c) (λ u w. w) (λ u w. w)
        (λ u w. w) (λ m u more w c sh parts k. k)

    pub chain_reader : (p : Limits → Parser A) (q : Limits → Parser B) → IsReader N p → IsReader M q →
        IsReader chain_notion (λ l. both (p l) (q l))
    chain_reader p q hp hq = record {
      sound = λ l. chain_sound l (p l) (q l) (hp.sound l) (hq.sound l);
      complete = λ l. both_complete N behind l (p l) (λ x. q l) follows (hp.complete l) (λ x y u r h w f.
          hq.complete l y u r h w f.0);
      first = λ l pos. both_first N behind l p (λ x. q) follows (λ x. hq.word l pos) (hp.sound l) (λ m c.
          hp.complete m) (hp.first l pos) (λ x. fault q x l (hq.first l pos));
      word = λ l pos.
          let x = hp.word l pos in
          let y = hq.word l pos in (
            (x.0, y.0),
            x.1 ++ y.1,
            record { front = x.1; back = y.1; whole = refl; first = x.2; second = y.2 },
            (x.3, y.3),
          );
    }

-- ---- version 2
abbrev pub two_notion : {A : Type 0} → ℕ → Notion A → Notion A
two_notion version N = record {
  form = λ x. InTwo version (N.form x);
  within = N.within;
  shallow = N.shallow;
  follow = N.follow;
  wider = N.wider;
  weaker = N.weaker;
  ahead = N.ahead;
}

pub two_reader : {A : Type 0} (version : ℕ) (N : Notion A) (p : Limits → Parser A) → IsTrue (version == 2) →
    IsReader N p → IsReader (two_notion version N) p
two_reader version N p is h = record {
  sound = λ l ts x r e. (let t = h.sound l ts x r e in
      record { used = t.used; parts = t.parts; reads = (is, t.reads); fits = t.fits; ends = t.ends });
  complete = λ l x u r f w e. h.complete l x u r f.1 w e;
  first = λ l pos ts s e.
      carry N (two_notion version N) p p (λ m. m) l ts [] s (h.first l pos ts s e) (λ m c. c) (λ u w.
      (w.0, w.1, (is, w.2), w.3)) (λ u w. (w.0, w.1, (is, w.2), w.3)) (λ u w. (w.0, w.1, (is, w.2), w.3))
      (λ m u more w c sh parts k. k);
  word = λ l pos. let w = h.word l pos in (w.0, w.1, (is, w.2), w.3);
}

-- ---- what is never there
module _ {A : Type 0} (N : Notion A) (f : Kind → Bool) (never : (k : Kind) → f k ≡ false)
    (none : (x : A) (u : List Placed) → N.form x u → ⊥) where
  no_begin : (ts : List Placed) → begins f ts ≡ false
  no_begin [] = refl
  no_begin (t ∷ ts) = never t.kind

  no_list : (p : Parser A) (n : ℕ) (ts : List Placed) → up_to f p n ts ≡ Ok ([], ts)
  no_list p zero ts = up_to_zero f p ts ∙ (let e = no_begin ts in rw e refl)
  no_list p (suc n) ts = up_to_suc f p n ts ∙ (let e = no_begin ts in rw e refl)

  pub no_list_reader : (p : Limits → Parser A) (m : Limits → ℕ) (mono : Mono m) →
      IsReader (list_notion N f m mono) (λ l. up_to f (p l) (m l))
  no_list_reader p m mono = record {
    sound = λ l ts x r e.
        subst (λ (w : List A × List Placed). Took (list_notion N f m mono) l ts w.0 w.1)
        (ok_is _ _ (sym (no_list (p l) (m l) ts) ∙ e))
        (record { used = []; parts = refl; reads = refl; fits = (tt, omega arith); ends = no_begin ts });
    complete = λ l x u r h w e. complete l x u r h;
    first = λ l pos ts s e. absurd (let q = sym (no_list (p l) (m l) ts) ∙ e in cc);
    word = λ l pos. ([], [], refl, (tt, omega arith));
  }
    where
      complete : (l : Limits) (x : List A) (u r : List Placed) → Each N.form x u →
          up_to f (p l) (m l) (u ++ r) ≡ Ok (x, r)
      complete l [] u r h = ap (λ l'. up_to f (p l) (m l) (l' ++ r)) h ∙ no_list (p l) (m l) r
      complete l (x ∷ xs) u r h = absurd (none x h.front h.first)

  no_option : (p : Parser A) (ts : List Placed) → maybe f p ts ≡ Ok (None, ts)
  no_option p ts = let e = no_begin ts in rw e refl

  pub no_option_reader : (p : Limits → Parser A) → IsReader (maybe_notion N f) (λ l. maybe f (p l))
  no_option_reader p = record {
    sound = λ l ts x r e.
        subst (λ (w : Option A × List Placed). Took (maybe_notion N f) l ts w.0 w.1)
        (ok_is _ _ (sym (no_option (p l) ts) ∙ e))
        (record { used = []; parts = refl; reads = refl; fits = tt; ends = no_begin ts });
    complete = λ l x u r h w e. complete l x u r h;
    first = λ l pos ts s e. absurd (let q = sym (no_option (p l) ts) ∙ e in cc);
    word = λ l pos. (None, [], refl, tt);
  }
    where
      complete : (l : Limits) (x : Option A) (u r : List Placed) → Maybe N.form x u → maybe f (p l) (u ++ r) ≡ Ok (x, r)
      complete l None u r h = ap (λ l'. maybe f (p l) (l' ++ r)) h ∙ no_option (p l) r
      complete l (Some x) u r h = absurd (none x u h)
