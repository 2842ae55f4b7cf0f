use Rattle.std.proofs.Common.{◌≡◌, ◌∙◌, ◌+◌, [], drop, get_or, sym, ap, refl, arith}
use Rattle.std.proofs.lemmas.List.{take_rest}
use Rattle.ct_data_tiles.specs.NameReading.{number_until}
use Rattle.ct_data_tiles.proofs.NamesRead.{stop_at, go_on, at_end, too_big}
use Rattle.ct_data_tiles.proofs.name_reading.number_before.Goals as goal

pub returns-then-text-i : goal.returns-then-text-i
returns-then-text-i c =
    let text = c.args.text.now in
    let i = c.loop-i.i in
    let e : number_until c.args.end 0 text ≡ (c.loop-i.n, drop (i + 1) text) =
    c.loop-i.invariant ∙ stop_at c.args.end c.loop-i.n i (get_or text i 0) text c.loop-i-test.true refl c.if-text-i.true in
    (sym (ap (λ p. p.0) e), take_rest text (i + 1) ∙ sym (ap (λ p. p.1) e))

pub loop-i-preserved : goal.loop-i-preserved
loop-i-preserved c =
    let text = c.args.text.now in
    let i = c.loop-i.i in
    c.loop-i.invariant ∙ go_on c.args.end c.loop-i.n i (get_or text i 0) text c.loop-i-test.true refl c.if-text-i.false
    ∙ ap (λ n. number_until c.args.end n (drop (i + 1) text)) (sym c.in-Some.ensures)

pub returns-in_default : goal.returns-in_default
returns-in_default c =
    let text = c.args.text.now in
    let i = c.loop-i.i in
    omega (
      arith,
      ap (λ p. p.0) c.loop-i.invariant,
      too_big c.args.end c.loop-i.n i (get_or text i 0) text c.loop-i-test.true refl c.if-text-i.false c.in_default.ensures,
    )

pub returns : goal.returns
returns c =
    let text = c.args.text.now in
    let e : number_until c.args.end 0 text ≡ (c.loop-i.n, []) = c.loop-i.invariant ∙ at_end c.args.end c.loop-i.n c.loop-i.i text c.loop-i-test.false in
    (sym (ap (λ p. p.0) e), sym (ap (λ p. p.1) e))
