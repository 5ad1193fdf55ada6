-- The two ways to take an option from a word agree: that of the spelling, and that of clap.
use Rattle.std.proofs.Common.{◌≡◌, ◌==◌, Bool, cond, true, false, refl, [], ◌∷◌, Some, None}
use Rattle.std.specs.Prelude.{option_and_then}
use Rattle.clap.specs.Lexer.{long_of, short_of, strip_byte}
use Rattle.symple_words.specs.Texts.{Text, option_of, after_hyphen, named}

pub same_hyphen : (t : Text) → strip_byte 45 t ≡ after_hyphen t
same_hyphen [] = refl
same_hyphen (b ∷ rest) = refl

pub same_option : (word : Text) → long_of word ≡ option_of word
same_option [] = refl
same_option (b ∷ rest) = go (b == 45)
  where
    inner : (t : Text) → option_and_then Rattle.clap.specs.Lexer.long_of_rest (strip_byte 45 t)
        ≡ option_and_then named (after_hyphen t)
    inner [] = refl
    inner (c ∷ []) = two (c == 45)
      where
        two : (x : Bool) → option_and_then Rattle.clap.specs.Lexer.long_of_rest (cond x (Some []) None)
            ≡ option_and_then named (cond x (Some []) None)
        two true = refl
        two false = refl
    inner (c ∷ (d ∷ more)) = two (c == 45)
      where
        two : (x : Bool) → option_and_then Rattle.clap.specs.Lexer.long_of_rest (cond x (Some (d ∷ more)) None)
            ≡ option_and_then named (cond x (Some (d ∷ more)) None)
        two true = refl
        two false = refl

    go : (x : Bool) → option_and_then Rattle.clap.specs.Lexer.long_of_rest
        (option_and_then (strip_byte 45) (cond x (Some rest) None))
        ≡ option_and_then named (option_and_then after_hyphen (cond x (Some rest) None))
    go true = inner rest
    go false = refl
