use Rattle.std.proofs.Common.{◌≡◌, ◌<◌, ◌++◌, ℕ, List, length, take, drop, get_or, ap, sym, subst, true, arith, Vec, String, Global}
use Rattle.std.specs.Prelude.{string_bytes, bytes_eq}
use Rattle.outside.specs.Files.{files_of, with_file}
use Rattle.outside.proofs.FilesLaws.{put_found}
use Rattle.outside.proofs.files.put_at.Goals as goal

pub returns-then-at-len-clause-put : goal.returns-then-at-len-clause-put
returns-then-at-len-clause-put c =
    let pairs : List (String Global × Vec ℕ Global) = c.args.files.now.items in
    let at : ℕ = c.place_of-at.result in
    let pair : String Global × Vec ℕ Global = c.index_mut.result.now in
    let name : List ℕ = c.args.name.now in
    let bytes : List ℕ = c.args.bytes.now in
    let lent : at < length c.deref.result.now = omega (arith, c.if-at-len.true, c.len.ensures, c.deref.ensures.len) in
    let within : at < length pairs = omega (arith, lent, ap length c.deref.ensures.value) in
    let there : bytes_eq (string_bytes (get_or pairs at pair).0) name ≡ true =
    subst (λ (xs : List (String Global × Vec ℕ Global)). bytes_eq (string_bytes (get_or xs at pair).0) name ≡ true)
    c.deref.ensures.value (c.place_of-at.ensures.here pair lent) in
    let same : bytes_eq (string_bytes pair.0) name ≡ true =
    subst (λ (p : String Global × Vec ℕ Global). bytes_eq (string_bytes p.0) name ≡ true)
    (sym c.index_mut.ensures.value) there in
    let others : take at (files_of pairs) ++ with_file name bytes (drop at (files_of pairs))
    ≡ with_file name bytes (files_of pairs) =
    subst (λ (xs : List (String Global × Vec ℕ Global)).
    take at (files_of xs) ++ with_file name bytes (drop at (files_of xs)) ≡ with_file name bytes (files_of xs))
    c.deref.ensures.value (c.place_of-at.ensures.others bytes) in
    put_found pairs at pair c.in-Ok.fresh name bytes within c.index_mut.ensures.value same c.in-Ok.ensures.items others
