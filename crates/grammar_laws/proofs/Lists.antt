-- Lists of limited length.
use Rattle.std.proofs.Common.{◌≡◌, ℕ, zero, suc, pred, ◌≤◌, Bool, true, false, cond, List, [], ◌∷◌, ◌++◌, length, Result, Ok, Err, refl, sym, ap, subst, ◌∙◌, append_assoc, arith, inl, inr}
use Rattle.std.specs.List.{AllByRecursion}
use Rattle.std.proofs.lemmas.List.{append-nil}
use Rattle.vert_lex.specs.Text.{Placed}
use Rattle.vert_lex.specs.Tokens.{Kind}
use Rattle.vert_grammar.specs.Grammar.{Then, Each, Limits}
use Rattle.vert_grammar.specs.Faults.{Why, TooMany}
use Rattle.vert_grammar.specs.Reading.{Stop, Parser, stop, both, made, begins, if_begins, up_to}
use Rattle.grammar_laws.specs.Notions.{Covers, Mono, Notion, Took, Sound, Complete, Fault, First, Follows, both_notion}
use Rattle.grammar_laws.proofs.Readers.{bind_err, chosen, ok_is, err_is, same_behind, begins_same, grows_covers, carry, both_sound, both_complete, both_first}
use Rattle.vert_grammar.proofs.Steps.{bind_ok}

pub all_wider : {A : Type 0} (N : Notion A) (xs : List A) (l m : Limits) → Covers l m → AllByRecursion (N.within l) xs
    → AllByRecursion (N.within m) xs
all_wider N [] l m c h = tt
all_wider N (x ∷ xs) l m c h = (N.wider l m x c h.0, all_wider N xs l m c h.1)

pub all_weaker : {A : Type 0} (N : Notion A) (xs : List A) (l : Limits) → AllByRecursion (N.within l) xs →
    AllByRecursion (N.shallow l.depth) xs
all_weaker N [] l h = tt
all_weaker N (x ∷ xs) l h = (N.weaker l x h.0, all_weaker N xs l h.1)

-- what may follow a list: no further item. The count is one of the limits.
abbrev pub list_notion : {A : Type 0} → Notion A → (Kind → Bool) → (m : Limits → ℕ) → Mono m → Notion (List A)
list_notion N f m mono = record {
  form = Each N.form;
  within = λ l xs. AllByRecursion (N.within l) xs × (length xs ≤ m l);
  shallow = λ b xs. AllByRecursion (N.shallow b) xs;
  follow = λ xs r. begins f r ≡ false;
  wider = λ k l xs c h. (all_wider N xs k l c h.0, (let q = mono k l c in let p = h.1 in omega arith));
  weaker = λ l xs h. all_weaker N xs l h.0;
  ahead = λ xs x y sh h. begins_same f x y sh ∙ h;
}

abbrev pub fewer : (Limits → ℕ) → Limits → ℕ
fewer m l = pred (m l)

pred_mono : (a b : ℕ) → a ≤ b → pred a ≤ pred b
pred_mono zero b le = omega arith
pred_mono (suc a) zero le = absurd (omega arith)
pred_mono (suc a) (suc b) le = omega arith

pub fewer_mono : (m : Limits → ℕ) → Mono m → Mono (fewer m)
fewer_mono m h k l c = pred_mono (m k) (m l) (h k l c)

pub fewer_is : (m : Limits → ℕ) (l : Limits) (n : ℕ) → m l ≡ suc n → fewer m l ≡ n
fewer_is m l n e = ap pred e

pub up_to_zero : {A : Type 0} (f : Kind → Bool) (p : Parser A) (ts : List Placed) →
    up_to f p zero ts ≡ cond (begins f ts) (stop TooMany ts) (Ok ([], ts))
unfolding up_to
up_to_zero f p ts = refl

pub up_to_suc : {A : Type 0} (f : Kind → Bool) (p : Parser A) (n : ℕ) (ts : List Placed) →
    up_to f p (suc n) ts ≡ cond (begins f ts) (made (λ x. x.0 ∷ x.1) (both p (up_to f p n)) ts) (Ok ([], ts))
unfolding up_to
up_to_suc f p n ts = refl

module _ {A : Type 0} (N : Notion A) (f : Kind → Bool) (free : (x : A) (r : List Placed) → N.follow x r)
    (opens : (x : A) (u r : List Placed) → N.form x u → begins f (u ++ r) ≡ true) where
  pub up_to_sound : (l : Limits) (p : Parser A) → Sound N l p → (n : ℕ) (m : Limits → ℕ) (mono : Mono m) → m l ≡ n →
      Sound (list_notion N f m mono) l (up_to f p n)
  unfolding up_to
  up_to_sound l p hp zero m mono is = λ ts xs r e.
      elim (chosen (begins f ts) _ _ _ e) [
        | inl h ↦ absurd (let q = h.1 in cc)
        | inr h ↦ subst (λ (w : List A × List Placed). Took (list_notion N f m mono) l ts w.0 w.1) (ok_is _ _ h.1)
            (record { used = []; parts = refl; reads = refl; fits = (tt, omega arith); ends = h.0 })
      ]
  up_to_sound l p hp (suc n) m mono is = λ ts xs r e.
      elim (chosen (begins f ts) _ _ _ e) [
        | inr h ↦ subst (λ (w : List A × List Placed). Took (list_notion N f m mono) l ts w.0 w.1) (ok_is _ _ h.1)
            (record { used = []; parts = refl; reads = refl; fits = (tt, omega arith); ends = h.0 })
        | inl h ↦
            let s = bind_ok (both p (up_to f p n) ts) (λ x. Ok (x.0.0 ∷ x.0.1, x.1)) (xs, r) h.1 in
            let t = both_sound N (λ x. list_notion N f (fewer m) (fewer_mono m mono)) l p (λ x. up_to f p n) hp (λ x.
            up_to_sound l p hp n (fewer m) (fewer_mono m mono) (fewer_is m l n is)) ts s.0.0 s.0.1 s.1 in
            subst (λ (w : List A × List Placed). Took (list_notion N f m mono) l ts w.0 w.1) (ok_is _ _ s.2)
            (record {
              used = t.used;
              parts = t.parts;
              reads = record {
                front = t.reads.front;
                back = t.reads.back;
                whole = t.reads.whole;
                first = t.reads.first;
                second = t.reads.second;
              };
              fits = ((t.fits.0, t.fits.1.0), (let q = t.fits.1.1 in let z = fewer_is m l n is in omega arith));
              ends = t.ends;
            })
      ]

  -- a list that a reader of at most n items meets may be followed by the next item
  list_follows : (m : Limits → ℕ) (mono : Mono m) → Follows N (list_notion N f m mono)
  list_follows m mono x y v r h g = free x (v ++ r)

  pub up_to_complete : (l : Limits) (p : Parser A) → Complete N l p → (n : ℕ) (m : Limits → ℕ) (mono : Mono m) →
      m l ≡ n → Complete (list_notion N f m mono) l (up_to f p n)
  unfolding up_to
  up_to_complete l p hp zero m mono is = λ xs u r h w g. none xs u r h w g
    where
      none : (xs : List A) (u r : List Placed) → Each N.form xs u → (list_notion N f m mono).within l xs →
          begins f r ≡ false → if_begins f (stop TooMany) (λ ts. Ok ([], ts)) (u ++ r) ≡ Ok (xs, r)
      none [] u r h w g = rw (h, g) refl
      none (x ∷ xs) u r h w g = absurd (let q = w.1 in omega arith)
  up_to_complete l p hp (suc n) m mono is = λ xs u r h w g.
      more xs u r h w g (up_to_complete l p hp n (fewer m) (fewer_mono m mono) (fewer_is m l n is))
    where
      more : (xs : List A) (u r : List Placed) → Each N.form xs u → (list_notion N f m mono).within l xs →
          begins f r ≡ false → Complete (list_notion N f (fewer m) (fewer_mono m mono)) l (up_to f p n)
          → if_begins f (made (λ x. x.0 ∷ x.1) (both p (up_to f p n))) (λ ts. Ok ([], ts)) (u ++ r) ≡ Ok (xs, r)
      more [] u r h w g inner = rw (h, g) refl
      more (x ∷ xs) u r h w g inner =
          let o : begins f (u ++ r) ≡ true =
          rw h.whole (ap (begins f) (append_assoc h.front h.back r) ∙ opens x h.front (h.back ++ r) h.first) in
          let e = both_complete N (λ x. list_notion N f (fewer m) (fewer_mono m mono)) l p (λ x. up_to f p n)
          (list_follows (fewer m) (fewer_mono m mono)) hp (λ x. inner) (x, xs) u r
          (record { front = h.front; back = h.back; whole = h.whole; first = h.first; second = h.second }) (
            w.0.0,
            (w.0.1, (let q = w.1 in let z = fewer_is m l n is in omega arith)),
          ) g in
          rw (o, e) refl

  module _ (l : Limits) (p : Limits → Parser A) (m : Limits → ℕ) (mono : Mono m) where
    at_limit : m l ≡ 0 →
        ((t : Placed) → f t.kind ≡ true → (x : A) × (v : List Placed) × N.form x (t ∷ v) × N.within l x) →
        (ts : List Placed) (s : Stop) (v : Bool) → begins f ts ≡ v →
        ◌≡◌ {A = Result (List A × List Placed) Stop} (cond v (stop TooMany ts) (Ok ([], ts))) (Err s) →
        Fault (list_notion N f m mono) (λ k. up_to f (p k) (m k)) l ts s
    at_limit is word ts s false h g = absurd cc
    at_limit is word [] s true h g = absurd cc
    at_limit is word (t ∷ ts) s true h g = subst
        (Fault (list_notion N f m mono) (λ k. up_to f (p k) (m k)) l (t ∷ ts)) (err_is (List A × List Placed) _ _ g)
        (let w = word t h in record {
          used = [];
          parts = refl;
          front = ([], [], refl, (tt, omega arith));
          stays = λ k more grows sh.
              subst (λ n. up_to f (p k) n more ≡ stop TooMany more) (sym (ap m (sym grows) ∙ is))
              (up_to_zero f (p k) more ∙ (let q : begins f more ≡ true = begins_same f more (t ∷ ts) sh ∙ h in
              rw q refl));
          beyond = (
            w.1,
            w.0 ∷ [],
            record {
              front = t ∷ w.1;
              back = [];
              whole = sym (append-nil (t ∷ w.1));
              first = w.2;
              second = refl;
            },
            (N.weaker l w.0 w.3, tt),
          );
        })

  module _ (l : Limits) (n : ℕ) (p : Limits → Parser A) (m : Limits → ℕ) (mono : Mono m) where
    in_item : m l ≡ suc n → (ts : List Placed) (s : Stop) → begins f ts ≡ true →
        Fault (both_notion N (list_notion N f (fewer m) (fewer_mono m mono))) (λ k. both (p k) (up_to f (p k)
        (fewer m k))) l ts s → Fault (list_notion N f m mono) (λ k. up_to f (p k) (m k)) l ts s
    in_item is ts s h g =
        carry (both_notion N (list_notion N f (fewer m) (fewer_mono m mono))) (list_notion N f m mono) (λ k.
        both (p k) (up_to f (p k) (fewer m k))) (λ k. up_to f (p k) (m k)) (λ k. k) l ts [] s g (λ k le. le)
        (λ u w. (
          w.0,
          w.1.0 ∷ w.1.1,
          form w.1 (u ++ w.0) w.2,
          ((w.3.0, w.3.1.0), (let q = w.3.1.1 in let z = fewer_is m l n is in omega arith)),
        ))
        (λ u w. (w.0, w.1.0 ∷ w.1.1, form w.1 (u ++ w.0) w.2, w.3))
        (λ u w. (w.0, w.1.0 ∷ w.1.1, form w.1 (u ++ w.0) w.2, tt))
        (λ k u more w grows sh parts q.
        let o : begins f (u ++ more) ≡ true = begins_same f (u ++ more) (u ++ s.rest) (same_behind u more s.rest sh)
        ∙ ap (begins f) (sym parts) ∙ h in
        stops k (u ++ more) more w (m k) refl (let c = mono l k (grows_covers w l k grows) in omega arith) o q)
      where
        form : (x : A × List A) (u : List Placed) → Then (N.form x.0) (Each N.form x.1) u → Each N.form (x.0 ∷ x.1) u
        form x u w = record { front = w.front; back = w.back; whole = w.whole; first = w.first; second = w.second }

        stops : (k : Limits) (ts more : List Placed) (w : Why) (n : ℕ) → m k ≡ n → 1 ≤ n → begins f ts ≡ true →
            both (p k) (up_to f (p k) (fewer m k)) ts ≡ stop w more → up_to f (p k) (m k) ts ≡ stop w more
        stops k ts more w zero e pos o q = absurd (omega arith)
        stops k ts more w (suc n) e pos o q =
            let q2 : both (p k) (up_to f (p k) n) ts ≡ stop w more =
            subst (λ j. both (p k) (up_to f (p k) j) ts ≡ stop w more) (ap pred e) q in
            subst (λ j. up_to f (p k) j ts ≡ stop w more) (sym e) (up_to_suc f (p k) n ts ∙ rw (o, q2) refl)

  module _ (l : Limits) (p : Limits → Parser A) where
    pub up_to_first : Sound N l (p l) → ((k : Limits) → Covers l k → Complete N k (p k)) → First N p l →
        ((t : Placed) → f t.kind ≡ true → (x : A) × (v : List Placed) × N.form x (t ∷ v) × N.within l x) →
        (n : ℕ) (m : Limits → ℕ) (mono : Mono m) → m l ≡ n →
        First (list_notion N f m mono) (λ k. up_to f (p k) (m k)) l
    up_to_first hp cp fp word zero m mono is = λ ts s e.
        at_limit l p m mono is word ts s (begins f ts) refl (sym (up_to_zero f (p l) ts)
        ∙ subst (λ n. up_to f (p l) n ts ≡ Err s) is e)
    up_to_first hp cp fp word (suc n) m mono is = λ ts s e.
        elim (chosen (begins f ts) _ _ _ (sym (up_to_suc f (p l) n ts) ∙ subst (λ n. up_to f (p l) n ts ≡ Err s) is
        e)) [
          | inr h ↦ absurd (let q = h.1 in cc)
          | inl h ↦ elim (bind_err (both (p l) (up_to f (p l) n) ts) (λ x. Ok (x.0.0 ∷ x.0.1, x.1)) s h.1) [
            | inr g ↦ absurd (let q = g.2 in cc)
            | inl g ↦ in_item l n p m mono is ts s h.0
                (both_first N (λ x. list_notion N f (fewer m) (fewer_mono m mono)) l p (λ x k.
                up_to f (p k) (fewer m k)) (list_follows (fewer m) (fewer_mono m mono)) (λ x.
                ([], [], refl, (tt, omega arith))) hp cp
                fp (λ x. up_to_first hp cp fp word n (fewer m) (fewer_mono m mono) (fewer_is m l n is)) ts s
                (subst (λ k. both (p l) (up_to f (p l) k) ts ≡ Err s) (sym (fewer_is m l n is)) g))
          ]
        ]
