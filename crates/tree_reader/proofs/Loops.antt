-- Reading items one after the other, as a loop does.
use Rattle.std.proofs.Common.{◌≡◌, ℕ, zero, suc, ◌+◌, ◌≤◌, ◌<◌, Bool, true, false, List, [], ◌∷◌, ◌++◌, length, Ok, Err, refl, sym, ap, ◌∙◌, append_assoc, arith}
use Rattle.std.proofs.lemmas.List.{append-nil}
use Rattle.std.specs.declared.alloc.Global.{Global}
use Rattle.std.specs.declared.string.String.{String}
use Rattle.vert_lex.specs.Text.{Placed}
use Rattle.vert_lex.specs.Tokens.{Kind}
use Rattle.vert_grammar.specs.Faults.{TooMany}
use Rattle.vert_grammar.specs.Reading.{Res, Parser, ◌>>=◌, stop, made, begins, up_to, many_from, many}
use Rattle.vert_grammar.proofs.Steps.{in_front}
use Rattle.tree_reader.specs.declared.fault.Halt.{Halt}
use Rattle.tree_reader.specs.declared.fault.Halt.TheVariants as halts
use Rattle.tree_reader.specs.Signs.{Fails, plain, plain_why}

-- what was read before, and what is still read
abbrev pub with_front : {A : Type 0} → List A → Res (List A) → Res (List A)
with_front front q = q >>= λ x. Ok (front ++ x.0, x.1)

regroup : {A : Type 0} (front : List A) (y : A) (q : Res (List A)) →
    with_front front (in_front y q) ≡ with_front (front ++ y ∷ []) q
regroup front y (Ok x) = ap (λ l. Ok (l, x.1)) (sym (append_assoc front (y ∷ []) x.0))
regroup front y (Err s) = refl

pub starts : {A : Type 0} (q : Res (List A)) → with_front [] q ≡ q
starts (Ok x) = refl
starts (Err s) = refl

module _ {A : Type 0} (f : Kind → Bool) (p : Parser A) (front : List A) (total : Res (List A)) (ts : List Placed) where
  -- ---- at most so many
  pub goes_on : (n m : ℕ) (y : A) (after : List Placed) → n ≡ suc m → begins f ts ≡ true → p ts ≡ Ok (y, after) →
      with_front front (up_to f p n ts) ≡ total → with_front (front ++ y ∷ []) (up_to f p m after) ≡ total
  unfolding up_to
  goes_on n m y after e b h so_far =
      let one : up_to f p (suc m) ts ≡ in_front y (up_to f p m after) = rw (b, h) refl in
      sym (regroup front y (up_to f p m after)) ∙ ap (with_front front) (sym one)
      ∙ ap (λ k. with_front front (up_to f p k ts)) (sym e) ∙ so_far

  pub fails : (names : List (String Global)) (n m : ℕ) (e : Halt) → n ≡ suc m → begins f ts ≡ true →
      Fails names e (p ts) → with_front front (up_to f p n ts) ≡ total → Fails names e total
  unfolding up_to
  fails names n m halts.Memory e b h so_far = tt
  fails names n m (halts.Fault w l) e b h so_far =
      let one : up_to f p (suc m) ts ≡ Err (record { why = plain_why w; rest = plain names l.now }) = rw (b, h) refl in
      sym so_far ∙ ap (λ k. with_front front (up_to f p k ts)) e ∙ ap (with_front front) one

  pub is_full : (n : ℕ) → n ≡ 0 → begins f ts ≡ true → with_front front (up_to f p n ts) ≡ total →
      total ≡ stop TooMany ts
  unfolding up_to
  is_full n e b so_far =
      let one : up_to f p zero ts ≡ stop TooMany ts = rw b refl in
      sym so_far ∙ ap (λ k. with_front front (up_to f p k ts)) e ∙ ap (with_front front) one

  pub is_over : (n : ℕ) → begins f ts ≡ false → with_front front (up_to f p n ts) ≡ total → total ≡ Ok (front, ts)
  unfolding up_to
  is_over zero b so_far =
      let one : up_to f p zero ts ≡ Ok ([], ts) = rw b refl in
      sym so_far ∙ ap (with_front front) one ∙ ap (λ l. Ok (l, ts)) (append-nil front)
  is_over (suc n) b so_far =
      let one : up_to f p (suc n) ts ≡ Ok ([], ts) = rw b refl in
      sym so_far ∙ ap (with_front front) one ∙ ap (λ l. Ok (l, ts)) (append-nil front)

-- ---- any number

begun : (f : Kind → Bool) (ts : List Placed) → begins f ts ≡ true → 0 < length ts
begun f [] b = absurd cc
begun f (t ∷ ts) b = omega arith

-- the items in front, and those that are still read
pub record IsMany {A : Type 0} (f : Kind → Bool) (p : Parser A) (front : List A) (ts all : List Placed) : Type 0 where
  pub bound : ℕ
  pub enough : length ts ≤ bound
  pub read : with_front front (many_from f p bound ts) ≡ many f p all

module _ {A : Type 0} (f : Kind → Bool) (p : Parser A) where
  pub many_starts : (ts : List Placed) → IsMany f p [] ts ts
  unfolding many
  many_starts ts = record { bound = length ts; enough = omega arith; read = starts (many_from f p (length ts) ts) }

  module _ (front : List A) (ts all after : List Placed) (y : A) where
    pub many_goes_on : IsMany f p front ts all → begins f ts ≡ true → p ts ≡ Ok (y, after) →
        length after + 1 ≤ length ts → IsMany f p (front ++ y ∷ []) after all
    unfolding many_from
    many_goes_on m b h less = go m.bound m.enough m.read
      where
        go : (n : ℕ) → length ts ≤ n → with_front front (many_from f p n ts) ≡ many f p all →
            IsMany f p (front ++ y ∷ []) after all
        go zero en g = absurd (let l = begun f ts b in omega arith)
        go (suc n) en g =
            let one : many_from f p (suc n) ts ≡ in_front y (many_from f p n after) = rw (b, h) refl in
            record {
              bound = n;
              enough = omega arith;
              read = sym (regroup front y (many_from f p n after))
                  ∙ ap (with_front front) (sym one) ∙ g;
            }

  pub many_fails : (names : List (String Global)) (front : List A) (ts all : List Placed) (e : Halt) →
      IsMany f p front ts all → begins f ts ≡ true → Fails names e (p ts) → Fails names e (many f p all)
  unfolding many_from
  many_fails names front ts all halts.Memory m b h = tt
  many_fails names front ts all (halts.Fault w l) m b h = go m.bound m.enough m.read
    where
      go : (n : ℕ) → length ts ≤ n → with_front front (many_from f p n ts) ≡ many f p all →
          many f p all ≡ Err (record { why = plain_why w; rest = plain names l.now })
      go zero en g = absurd (let k = begun f ts b in omega arith)
      go (suc n) en g =
          let one : many_from f p (suc n) ts
          ≡ Err (record { why = plain_why w; rest = plain names l.now }) = rw (b, h) refl in
          sym g ∙ ap (with_front front) one

  pub many_over : (front : List A) (ts all : List Placed) → IsMany f p front ts all → begins f ts ≡ false →
      many f p all ≡ Ok (front, ts)
  unfolding many_from
  many_over front ts all m b = go m.bound m.read
    where
      go : (n : ℕ) → with_front front (many_from f p n ts) ≡ many f p all → many f p all ≡ Ok (front, ts)
      go zero g = sym g ∙ ap (λ l. Ok (l, ts)) (append-nil front)
      go (suc n) g =
          let one : many_from f p (suc n) ts ≡ Ok ([], ts) = rw b refl in
          sym g ∙ ap (with_front front) one ∙ ap (λ l. Ok (l, ts)) (append-nil front)
