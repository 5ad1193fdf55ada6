use Rattle.std.proofs.Common.{◌≡◌, ◌∙◌, ℕ, ap, sym, subst, true, Vec, String, Global}
use Rattle.std.specs.Prelude.{Some, string_bytes, bytes_eq}
use Rattle.outside.specs.Files.{files_of}
use Rattle.outside.proofs.FilesLaws.{files_at, found}
use Rattle.outside.proofs.files.find_in.Goals as goal

pub returns-then-at-files : goal.returns-then-at-files
returns-then-at-files c =
    let files = files_of c.args.files.now in
    let at = c.place_of-at.result in
    let pair = c.index-files-at.result in
    let here = files_at c.args.files.now at pair c.if-at-files.true c.index-files-at.is in
    let same : bytes_eq (string_bytes pair.0) c.args.name.now ≡ true =
    subst (λ (p : String Global × Vec ℕ Global). bytes_eq (string_bytes p.0) c.args.name.now ≡ true)
    (sym c.index-files-at.is) (c.place_of-at.ensures.here pair c.if-at-files.true) in
    ap Some c.as_slice.ensures.value ∙ ap (λ (p : String Global × Vec ℕ Global). Some p.1.items)
    (sym c.index-files-at.is) ∙ sym (found files at (record { name = string_bytes pair.0; bytes = pair.1.items })
    c.args.name.now here same) ∙ c.place_of-at.ensures.named
