use Rattle.std.proofs.Common.{◌≡◌, ◌+◌, ◌<◌, ◌≤◌, ◌++◌, List, ℕ, [], codes, flat_map, take, drop, length, get_or, slice_get, ap, ◌∙◌, append-nil, arith}
use Rattle.std.proofs.lemmas.List.{take_all}
use Rattle.vert_tree.specs.declared.program.Decl.{Decl}
use Rattle.vert_tree.specs.declared.program.Program.{Program}
use Rattle.array_text.specs.Tables.{bytes_of, name_text}
use Rattle.array_text.proofs.WritesLaws.{writes_same, writes_failed, writes_then, texts_split, regrouped}
use Rattle.array_text.proofs.header.write_header.Goals as goal

named : (p : Program) (field : Decl) (name : List ℕ) → name ≡ bytes_of (slice_get p.names.items field.name.name) →
    codes " " ++ (name ++ []) ≡ name_text p field
named p field name is = ap (λ (n : List ℕ). codes " " ++ n) (append-nil name ∙ is)

pub returns-in_err-put_all : goal.returns-in_err-put_all
returns-in_err-put_all g c =
    writes_failed (flat_map (name_text c.args.split.now.program.program) c.args.split.now.program.program.fields.items
    ++ codes "\n") c.from_residual.result c.from_residual.ensures.0 c.in_err-put_all.ensures

pub returns-in_err-put_pieces : goal.returns-in_err-put_pieces
returns-in_err-put_pieces g c =
    let fields = c.args.split.now.program.program.fields.items in
    let i = c.loop-field.field-index in
    let below : i < length fields = omega (arith, ap length c.deref-field-items.ensures.value) in
    let field_is : c.field-item.result ≡ get_or fields i c.field-item.result =
    cc (c.field-item.is, c.deref-field-items.ensures.value) in
    let part = codes " " ++ (c.name_of.result.now ++ []) in
    let part_is : part ≡ name_text c.args.split.now.program.program (get_or fields i c.field-item.result) =
    named c.args.split.now.program.program c.field-item.result c.name_of.result.now c.name_of.ensures
    ∙ ap (name_text c.args.split.now.program.program) field_is in
    writes_same
    (regrouped (codes "vertex") (flat_map (name_text c.args.split.now.program.program) (take i fields)) part
    (flat_map (name_text c.args.split.now.program.program) (drop (i + 1) fields))
    (flat_map (name_text c.args.split.now.program.program) fields) (codes "\n")
    (texts_split (name_text c.args.split.now.program.program) fields i c.field-item.result part below part_is))
    (writes_failed (flat_map (name_text c.args.split.now.program.program) (drop (i + 1) fields) ++ codes "\n")
    c.from_residual-in_err-put_pieces.result c.from_residual-in_err-put_pieces.ensures.0
    (writes_then _ c.loop-field.invariant c.in_err-put_pieces.ensures))

pub returns : goal.returns
returns g c =
    let fields = c.args.split.now.program.program.fields.items in
    let all : length fields ≤ c.loop-field.field-index = omega (arith, ap length c.deref-field-items.ensures.value) in
    writes_same (ap (λ (some : List Decl).
    codes "vertex" ++ flat_map (name_text c.args.split.now.program.program) some ++ codes "\n")
    (take_all c.loop-field.field-index fields all)) (writes_then _ c.loop-field.invariant c.put_all-2.ensures)
