use Rattle.libwagtenib.proofs.Messages.{too_short, no_text, no_line, no_number, both_parts}
use Rattle.libwagtenib.proofs.message.parts_of.Goals as goal

pub returns-in_default : goal.returns-in_default
returns-in_default c = too_short c.args.bytes.now c.in_default.ensures

pub returns-in_default-text_of : goal.returns-in_default-text_of
returns-in_default-text_of c = no_text c.args.bytes.now c.in-Some.rest.now c.in-Some.ensures c.in_default-text_of.ensures

pub returns-in_default-first_line : goal.returns-in_default-first_line
returns-in_default-first_line c = no_line c.args.bytes.now c.in-Some.rest.now c.in-Some-text_of.line.now c.in-Some.ensures c.in-Some-text_of.ensures c.in_default-first_line.ensures

pub returns-in_default-number_of : goal.returns-in_default-number_of
returns-in_default-number_of c =
    let l = c.in-Some-first_line.ensures in
    no_number c.args.bytes.now c.in-Some.rest.now c.in-Some-text_of.line.now c.in-Some-first_line.number.now c.in-Some-first_line.text.now c.in-Some.ensures
    c.in-Some-text_of.ensures l.0 l.1 c.in_default-number_of.ensures

pub returns : goal.returns
returns c =
    let l = c.in-Some-first_line.ensures in
    both_parts c.args.bytes.now c.in-Some.rest.now c.in-Some-text_of.line.now c.in-Some-first_line.number.now c.in-Some-first_line.text.now c.in-Some-number_of.time
    c.in-Some.ensures c.in-Some-text_of.ensures l.0 l.1 c.in-Some-number_of.ensures
