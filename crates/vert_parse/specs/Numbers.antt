-- A token with a number in place of its name, where the texts of names are a growing list.
use Rattle.std.specs.Prelude.{◌≡◌, ◌≤◌, List, ◌++◌, length}
use Rattle.std.specs.declared.alloc.Global.{Global}
use Rattle.std.specs.declared.string.String.{String}
use Rattle.vert_lex.specs.declared.token.Token.{Token}
use Rattle.vert_lex.specs.View.{plain_token}
use Rattle.tree_reader.specs.declared.sign.Sign.{Sign}
use Rattle.tree_reader.specs.Signs.{plain_sign}

-- At most one name was added, and the sign is the token whatever names are added later.
pub record IsSignOf (token : Token) (before after : List (String Global)) (sign : Sign) : Type 0 where
  pub added : List (String Global)
  pub grown : after ≡ before ++ added
  pub few : length added ≤ 1
  pub same : (more : List (String Global)) → plain_sign (after ++ more) sign ≡ plain_token token
