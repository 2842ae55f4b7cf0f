use Rattle.std.proofs.Common.{◌≡◌, ◌<◌, ◌++◌, ℕ, List, length, subst, sym, rules}
use Rattle.ct_promise.specs.DerWriting.{element_text}
use Rattle.ct_promise.specs.Reading.{extensions_text}
use Rattle.ct_promise.specs.Cuts.{parts_of}
use Rattle.ct_promise.proofs.Shorter.{lists_fit, field_fits, fields_fit}
use Rattle.ct_promise.proofs.cutting.write_without.Goals as goal

pub push_extensions-requires-clause-list : goal.push_extensions-requires-clause-list
push_extensions-requires-clause-list c =
    let p = parts_of c.args.cut.now in
    let e : c.deref.result.now ≡ p.front ++ p.behind = search rules in
    subst (λ (l : List ℕ). length l < 4294967296) (sym e) (lists_fit c.requires.0 p c.requires.1 c.requires.2)

pub push_extensions-requires-clause-field : goal.push_extensions-requires-clause-field
push_extensions-requires-clause-field c =
    let p = parts_of c.args.cut.now in
    let e : c.deref.result.now ≡ p.front ++ p.behind = search rules in
    subst (λ (l : List ℕ). length (element_text 48 l) < 4294967296) (sym e) (field_fits c.requires.0 p c.requires.1 c.requires.2)

pub push_element-requires-clause-fits : goal.push_element-requires-clause-fits
push_element-requires-clause-fits c =
    let p = parts_of c.args.cut.now in
    let e : c.deref-2.result.now ≡ p.head ++ extensions_text (p.front ++ p.behind) = search rules in
    subst (λ (l : List ℕ). length l < 4294967296) (sym e) (fields_fit c.requires.0 p c.requires.1 c.requires.2)
