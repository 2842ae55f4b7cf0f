use Rattle.std.proofs.Common.{◌∙◌, ◌++◌, ◌%◌, [], ◌∷◌, ap, arith, inl, inr}
use Rattle.ct_data_tiles.specs.TileNames.{three_digits}
use Rattle.ct_data_tiles.proofs.NamesRead.{groups_less, groups_on}
use Rattle.ct_data_tiles.proofs.name_writing.+push_leading_groups.Goals as goal
use Rattle.ct_data_tiles.proofs.name_writing.+push_leading_groups.Goals.{then-groups-eq0-via-then-groups-eq0, then-groups-eq0-via-else-groups-eq0+then-n-eq0}

pub returns-then-groups-eq0 : goal.returns-then-groups-eq0
returns-then-groups-eq0 t c = elim c.then-groups-eq0.branch [
  | then-groups-eq0-via-then-groups-eq0 w ↦ groups_less c.args.text.now.items c.args.groups c.args.n (inl w.if-groups-eq0.true)
  | then-groups-eq0-via-else-groups-eq0+then-n-eq0 w ↦ groups_less c.args.text.now.items c.args.groups c.args.n (inr w.if-n-eq0.true)
]

pub returns : goal.returns
returns t c =
    c.in_ok-push-2.ensures.items
    ∙ ap (λ t. t ++ 47 ∷ []) (c.in_ok-push_three_digits.ensures ∙ ap (λ t. t ++ three_digits (c.args.n % 1000)) (c.in_ok-push.ensures.items ∙ ap (λ t. t ++ 120 ∷ []) c.in_ok-push_leading_groups.ensures))
    ∙ groups_on c.args.text.now.items c.args.groups c.args.n (omega (arith, c.if-groups-eq0.false)) (omega (arith, c.if-n-eq0.false))
