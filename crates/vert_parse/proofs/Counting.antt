-- Names that are numbered in order.
use Rattle.std.proofs.Common.{◌≡◌, ◌≤◌, ◌<◌, ◌+◌, ℕ, zero, suc, List, [], ◌∷◌, ◌++◌, length, get_or, take, Some, refl, sym, ap, ◌∙◌, append_assoc, arith}
use Rattle.std.specs.Prelude.{slice_get}
use Rattle.std.specs.String.{string_bytes}
use Rattle.std.specs.declared.alloc.Global.{Global}
use Rattle.std.specs.declared.string.String.{String}
use Rattle.std.proofs.lemmas.List.{append-nil, length-append, map-append, take_all, take_more}
use Rattle.vert_lex.specs.Tokens.{Name}
use Rattle.vert_lex.specs.declared.token.Token.{Token}
use Rattle.vert_lex.specs.View.{plain_kind as lexed_kind, plain_token, plain_tokens}
use Rattle.vert_tree.specs.Views.{text_in, text_of}
use Rattle.tree_reader.specs.declared.sign.Sign.{Sign}
use Rattle.tree_reader.specs.declared.sign.SignKind.TheVariants as kinds
use Rattle.vert_parse.specs.Numbers.{IsSignOf}
use Rattle.vert_parse.specs.Parsing.{AreSmall, IsSmallKind}
use Rattle.tree_reader.specs.Signs.{plain, plain_sign}

abbrev Names : Type 0
Names = List (String Global)

-- ---- one token
pub kept : (token : Token) (names : Names) (sign : Sign) → ((more : Names) → plain_sign more sign ≡ plain_token token)
    → IsSignOf token names names sign
kept token names sign h = record {
  added = [];
  grown = sym (append-nil names);
  few = omega arith;
  same = λ more.
      h (names ++ more);
}

last_of : (names more : Names) (text : String Global) → slice_get (names ++ text ∷ more) (length names) ≡ Some text
last_of [] more text = refl
last_of (x ∷ xs) more text = last_of xs more text

pub named : (token : Token) (names : Names) (text copy : String Global) (number : ℕ) →
    lexed_kind token.kind ≡ Name (string_bytes text) → string_bytes copy ≡ string_bytes text → number ≡ length names
    → IsSignOf token names (names ++ copy ∷ []) (record { span = token.span; kind = kinds.Name number })
named token names text copy number is same at = record {
  added = copy ∷ [];
  grown = refl;
  few = omega arith;
  same = λ more.
      let found : text_of ((names ++ copy ∷ []) ++ more) number ≡ string_bytes text =
      ap (text_of ((names ++ copy ∷ []) ++ more)) at
      ∙ ap (λ l. text_of l (length names)) (append_assoc names (copy ∷ []) more)
      ∙ ap text_in (last_of names more copy) ∙ same in
      ap (λ k. record { span = token.span; kind = k }) (ap Name found ∙ sym is);
}

-- ---- a list of them
pub small_at : (tokens : List Token) (i : ℕ) (d : Token) → AreSmall (plain_tokens tokens) → i < length tokens →
    IsSmallKind (lexed_kind (get_or tokens i d).kind)
small_at [] i d h lt = absurd (omega arith)
small_at (t ∷ ts) zero d h lt = h.0
small_at (t ∷ ts) (suc i) d h lt = small_at ts i d h.1 (omega arith)

-- The signs are the first tokens, whatever names are added later.
pub record AreNumbered (tokens : List Token) (n : ℕ) (signs : List Sign) (names : Names) : Type 0 where
  pub few : length names ≤ n
  pub same : (more : Names) → plain (names ++ more) signs ≡ plain_tokens (take n tokens)

module _ (tokens : List Token) (n : ℕ) (d : Token) (signs : List Sign) (names after : Names) (sign : Sign) where
  pub numbered_more : n < length tokens → AreNumbered tokens n signs names →
      IsSignOf (get_or tokens n d) names after sign → AreNumbered tokens (n + 1) (signs ++ sign ∷ []) after
  numbered_more lt h is = record {
    few = (let e : length after ≡ length names + length is.added = ap length is.grown ∙ length-append names
        is.added in
        let f = is.few in let g = h.few in omega arith);
    same = λ more.
        let before : plain (after ++ more) signs ≡ plain_tokens (take n tokens) =
        ap (λ l. plain (l ++ more) signs) is.grown ∙ ap (λ l. plain l signs) (append_assoc names is.added more)
        ∙ h.same (is.added ++ more) in
        map-append (plain_sign (after ++ more)) signs (sign ∷ [])
        ∙ ap (λ l. l ++ plain_sign (after ++ more) sign ∷ []) before
        ∙ ap (λ s. plain_tokens (take n tokens) ++ s ∷ []) (is.same more)
        ∙ sym (map-append plain_token (take n tokens) (get_or tokens n d ∷ []))
        ∙ ap plain_tokens (sym (take_more tokens n d lt));
  }

pub all_numbered : (tokens : List Token) (n : ℕ) (signs : List Sign) (names : Names) →
    AreNumbered tokens n signs names → length tokens ≤ n → plain names signs ≡ plain_tokens tokens
all_numbered tokens n signs names h le =
    ap (λ l. plain l signs) (sym (append-nil names)) ∙ h.same [] ∙ ap plain_tokens (take_all n tokens le)
