use Rattle.std.proofs.Common.{◌≡◌, List, ◌++◌, map, flat_map, codes, ap, ◌∙◌, ℕ}
use Rattle.std.proofs.lemmas.Result.{on_ok_weaker}
use Rattle.std.specs.String.{string_bytes}
use Rattle.vert_tree.specs.Printed.{printed_declaration, printed_opening, printed_block}
use Rattle.vert_tree.specs.Views.{view_declaration, view_block, view_sparse}
use Rattle.vert_tree.proofs.Printing.{ahead, at_last}
use Rattle.vert_tree.proofs.print.block.print_sparse.Goals as goal

pub returns : goal.returns
returns c =
    let names = c.args.names.now in
    let d = view_sparse names c.args.sparse.now in
    let sends : List ℕ = flat_map (printed_declaration (codes "send ")) d.sends in
    let e2 : string_bytes c.print_declarations.new.out ≡ string_bytes c.print_opening.new.out ++ sends =
    c.in_ok-print_declarations.ensures ∙ ap (λ l.
    string_bytes c.print_opening.new.out
    ++ flat_map (printed_declaration (codes "send ")) (map (view_declaration names) l)) c.deref.ensures.value in
    let e3 : string_bytes c.print_block.new.out ≡ string_bytes c.print_declarations.new.out ++ printed_block d.body =
    c.in_ok-print_block.ensures ∙ ap (λ l. string_bytes c.print_declarations.new.out
    ++ printed_block (view_block names l)) c.deref-2.ensures.value in
    on_ok_weaker c.push_str.result (λ e. ahead _ _ (printed_opening (codes "sparse when ") d.test) _ _
    c.in_ok-print_opening.ensures (ahead _ _ sends _ _ e2 (ahead _ _ (printed_block d.body) (codes "}\n") _ e3 e)))
    (at_last c.push_str.result (string_bytes c.print_block.new.out) (string_bytes c.push_str.new.self) (codes "}\n")
    c.push_str.ensures.bytes)
