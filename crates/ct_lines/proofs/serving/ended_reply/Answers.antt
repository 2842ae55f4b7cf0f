use Rattle.std.proofs.Common.{◌<◌, length, ◌∙◌, arith, rules}
use Rattle.std.proofs.lemmas.Grind.{common_steps}
use Rattle.ct_lines.proofs.Asking.{kept_replied, none_replied}
use Rattle.ct_lines.proofs.serving.ended_reply.Goals as goal

pub returns-then-is_empty : goal.returns-then-is_empty
returns-then-is_empty c = λ line ends. none_replied c.args.log.now line c.content-line.result.now (c.content-line.ensures ∙ ends) (search rules)

pub returns : goal.returns
returns c = λ line ends.
    let some : 0 < length c.content-line.result.now = grind (arith, common_steps) in
    kept_replied c.args.log.now line c.content-line.result.now c.in_ok-reply.reply.items (c.content-line.ensures ∙ ends) some c.in_ok-reply.ensures
