-- The loops that build a command.
use Rattle.std.proofs.Common.{◌≡◌, ◌∙◌, ◌<◌, ◌+◌, ℕ, sym, ap, List, [], ◌∷◌, ◌++◌, map, length, drop, slice_index_or, Bor, append_assoc, true}
use Rattle.std.proofs.lemmas.List.{drop_more}
use Rattle.clap.specs.Walk.{Rule}
use Rattle.clap.specs.Simple.{App, new_app, new_shape, on_top, with_rule}
use Rattle.symple_words.specs.Texts.{Text}
use Rattle.symple_words.specs.Asked.{app_with}
use Rattle.symple_words.specs.Views.{texts}

one_behind : (a : App) (r : Rule) (more : List Rule) → app_with (with_rule a r) more ≡ app_with a (r ∷ more)
one_behind a r more = ap (λ rs. record { top = record a.top { rules = rs }; subs = a.subs })
    (append_assoc a.top.rules (r ∷ []) more)

-- the invariant, one argument on
module _ (rule : Text → Rule) (a b start : App) (xs : List (Bor Text)) (i : ℕ) (d : Bor Text) (r : Rule) where
  pub one_more : i < length xs → r ≡ rule (slice_index_or xs i d).now → b ≡ with_rule a r →
      app_with a (map rule (texts (drop i xs))) ≡ start →
      app_with b (map rule (texts (drop (i + 1) xs))) ≡ start
  one_more lt is added e =
      ap (λ c. app_with c (map rule (texts (drop (i + 1) xs)))) (added ∙ ap (with_rule a) is)
      ∙ (one_behind a (rule (slice_index_or xs i d).now) (map rule (texts (drop (i + 1) xs)))
      ∙ (sym (ap (λ l. app_with a (map rule (texts l))) (drop_more xs i d lt)) ∙ e))

all_together : (name : Text) (a b c : List Rule)
    → app_with (app_with (app_with (on_top (λ s. record s { disable_help_flag = true }) (new_app name)) a) b) c
    ≡ record { top = record (new_shape name) { rules = a ++ (b ++ c); disable_help_flag = true }; subs = [] }
all_together name a b c = ap (λ rs. record {
  top = record (new_shape name) { rules = rs; disable_help_flag = true };
  subs = [];
}) (append_assoc a b c)

-- the three loops, one after another
module _ (name : Text) (positionals options flags : List Rule) (bare placed chosen whole : App) where
  pub built_up : bare ≡ on_top (λ s. record s { disable_help_flag = true }) (new_app name) →
      placed ≡ app_with bare positionals → chosen ≡ app_with placed options → whole ≡ app_with chosen flags →
      whole ≡ record {
        top = record (new_shape name) {
          rules = positionals ++ (options ++ flags);
          disable_help_flag = true;
        };
        subs = [];
      }
  built_up a b c d =
      d ∙ (ap (λ x. app_with x flags) (c ∙ ap (λ x. app_with x options) (b ∙ ap (λ x. app_with x positionals) a))
      ∙ all_together name positionals options flags)
