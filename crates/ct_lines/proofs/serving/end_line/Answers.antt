use Rattle.std.proofs.Common.{◌≡◌, [], ◌∷◌, List, ℕ, refl, subst, sym, append-nil, arith}
use Rattle.std.specs.Io.KnownBytes.{Appends}
use Rattle.std.proofs.KnownBytes.{Appends-nil}
use Rattle.ct_lines.specs.Frozen.{frozen_reply}
use Rattle.ct_lines.specs.Progress.{EndsAs}
use Rattle.ct_lines.specs.Serving.{reply_if}
use Rattle.ct_lines.proofs.Pieces.{stop_here}
use Rattle.ct_lines.proofs.serving.end_line.Goals as goal

pub returns-in-Err-clause-counted : goal.returns-in-Err-clause-counted
returns-in-Err-clause-counted g c = rw c.from.ensures refl

pub returns-in-Err-clause-stopped : goal.returns-in-Err-clause-stopped
returns-in-Err-clause-stopped g c = λ line ends. rw c.from.ensures ([], tt, refl, Appends-nil (g.W.Write.contents c.args.writer.now))

pub returns-in_default-clause-written : goal.returns-in_default-clause-written
returns-in_default-clause-written g c = λ line ends.
    let asked = c.in-Ok.ensures line (subst (λ l. EndsAs l line) (sym c.deref.ensures.value) ends) in
    let none : [] ≡ reply_if (frozen_reply c.args.log.now) line = rw c.in_default.is at asked in
    rw (← none) (Appends-nil (g.W.Write.contents c.args.writer.now), omega arith)

pub returns-in-Ok-write_bytes-clause-written : goal.returns-in-Ok-write_bytes-clause-written
returns-in-Ok-write_bytes-clause-written g c = λ line ends.
    let asked = c.in-Ok.ensures line (subst (λ l. EndsAs l line) (sym c.deref.ensures.value) ends) in
    let one : c.in-Some.bytes.items ∷ [] ≡ reply_if (frozen_reply c.args.log.now) line = rw c.in-Some.is at asked in
    let all = rw c.deref-2.ensures.value at c.in-Ok-write_bytes.ensures.all in
    rw (← one) (
      subst (λ (l : List ℕ). Appends (g.W.Write.contents c.args.writer.now) (g.W.Write.contents c.write_bytes.new.writer) l)
          (sym (append-nil c.in-Some.bytes.items)) all,
      refl,
    )

pub returns-clause-counted : goal.returns-clause-counted
returns-clause-counted g c = rw c.from-in-Err-write_bytes.ensures refl

pub returns-clause-stopped : goal.returns-clause-stopped
returns-clause-stopped g c = λ line ends.
    let asked = c.in-Ok.ensures line (subst (λ l. EndsAs l line) (sym c.deref.ensures.value) ends) in
    let one = rw c.in-Some.is at asked in
    let some = rw c.deref-2.ensures.value at c.in-Err-write_bytes.ensures.some in
    rw c.from-in-Err-write_bytes.ensures (stop_here (frozen_reply c.args.log.now) line c.in-Some.bytes.items (g.W.Write.contents c.args.writer.now)
    (g.W.Write.contents c.write_bytes.new.writer) c.args.count one some)
