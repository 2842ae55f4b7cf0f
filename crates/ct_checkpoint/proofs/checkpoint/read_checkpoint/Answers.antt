use Rattle.std.proofs.Common.{◌≡◌, ◌∙◌, ◌++◌, ◌∷◌, [], length, decimal, sym, ap, arith}
use Rattle.std.proofs.lemmas.Bool.{eqb-true}
use Rattle.base64.specs.Engines.{standard}
use Rattle.base64.specs.GeneralPurpose.{encode_of}
use Rattle.ct_checkpoint.proofs.Lines.{parts_of, no_lines, number_and_rest, failed_test, as_written, root_fault, has_bytes}
use Rattle.ct_checkpoint.proofs.checkpoint.read_checkpoint.Goals as goal

pub returns-in_default-clause-refused : goal.returns-in_default-clause-refused
returns-in_default-clause-refused c = λ not origin n root k. no_lines origin n root c.args.text.now k c.in_default.ensures.cut

pub returns-then-is_empty-clause-refused : goal.returns-then-is_empty-clause-refused
returns-then-is_empty-clause-refused c = λ not origin n root k.
    let p = parts_of origin n root c.args.text.now c.in-Some.origin.now c.in-Some.behind_origin.now k c.in-Some.ensures.cut.0 c.in-Some.ensures.cut.1 in
    let none : length c.in-Some.origin.now ≡ 0 = eqb-true (length c.in-Some.origin.now) 0 (sym c.is_empty.ensures ∙ c.if-is_empty.true) in
    omega (arith, none, ap length p.origin_is, k.named)

pub returns-in_default-first_line-clause-refused : goal.returns-in_default-first_line-clause-refused
returns-in_default-first_line-clause-refused c = λ not origin n root k.
    let p = parts_of origin n root c.args.text.now c.in-Some.origin.now c.in-Some.behind_origin.now k c.in-Some.ensures.cut.0 c.in-Some.ensures.cut.1 in
    c.in_default-first_line.ensures.cut (decimal n) (encode_of standard root ++ 10 ∷ []) p.behind_is

pub returns-in_default-number_of-clause-refused : goal.returns-in_default-number_of-clause-refused
returns-in_default-number_of-clause-refused c = λ not origin n root k.
    let p = parts_of origin n root c.args.text.now c.in-Some.origin.now c.in-Some.behind_origin.now k c.in-Some.ensures.cut.0 c.in-Some.ensures.cut.1 in
    let e = c.in-Some-first_line.ensures.cut in
    let q = number_and_rest n root c.in-Some.behind_origin.now c.in-Some-first_line.size.now c.in-Some-first_line.behind_size.now k.size p.behind_is e.0 e.1 in
    c.in_default-number_of.ensures.written n k.size q.0

pub returns-in-Err-clause-refused : goal.returns-in-Err-clause-refused
returns-in-Err-clause-refused c = λ not origin n root k.
    let p = parts_of origin n root c.args.text.now c.in-Some.origin.now c.in-Some.behind_origin.now k c.in-Some.ensures.cut.0 c.in-Some.ensures.cut.1 in
    let e = c.in-Some-first_line.ensures.cut in
    let q = number_and_rest n root c.in-Some.behind_origin.now c.in-Some-first_line.size.now c.in-Some-first_line.behind_size.now k.size p.behind_is e.0 e.1 in
    c.in-Err.ensures.refused not root 10 k.root (c.as_bytes.ensures.value ∙ q.1)

pub returns-clause-refused : goal.returns-clause-refused
returns-clause-refused c = λ not origin n root k.
    let p = parts_of origin n root c.args.text.now c.in-Some.origin.now c.in-Some.behind_origin.now k c.in-Some.ensures.cut.0 c.in-Some.ensures.cut.1 in
    let e = c.in-Some-first_line.ensures.cut in
    let q = number_and_rest n root c.in-Some.behind_origin.now c.in-Some-first_line.size.now c.in-Some-first_line.behind_size.now k.size p.behind_is e.0 e.1 in
    let number = c.in-Some-number_of.ensures.written n k.size q.0 in
    let found = c.in-Ok.ensures.found root k.root (c.as_bytes.ensures.value ∙ q.1) in
    let same = as_written origin n root c.args.text.now c.in-Some.origin.now c.as_str.result.now c.in-Ok.root c.in-Some-number_of.size k p.origin_is number found
    (c.as_str.ensures.value ∙ c.in_ok-written.ensures) in
    failed_test c.is_same.result (c.as_str.result.now ≡ c.args.text.now) (c.as_str.result.now ≡ c.args.text.now → ⊥) c.is_same.ensures c.if-is_same.false same

pub returns-in-Err-clause-fault : goal.returns-in-Err-clause-fault
returns-in-Err-clause-fault c =
    let o = c.in-Some.ensures.cut in
    let s = c.in-Some-first_line.ensures.cut in
    root_fault c.in-Err.fault c.args.text.now c.in-Some.origin.now c.in-Some.behind_origin.now c.in-Some-first_line.behind_size.now c.in-Some-number_of.size
    (has_bytes c.in-Some.origin.now c.is_empty.result (c.is_empty.ensures) c.if-is_empty.false, o.1, o.0)
    (c.in-Some-first_line.size.now, s.1, s.0, c.in-Some-number_of.ensures.number)
    c.in-Err.ensures.fault (λ not root last is e. c.in-Err.ensures.refused not root last is (c.as_bytes.ensures.value ∙ e))
