use Rattle.std.specs.Borrow.{Bor}
use Rattle.std.proofs.Common.{◌∙◌, ℕ, List, ap, inl, inr, map, subst}
use Rattle.sha2.specs.Sha256.{sha256}
use Rattle.libwagtenib.specs.Guard.{JudgesReceipts}
use Rattle.libwagtenib.proofs.guard.wagtenib_guard_receipts.Goals as goal

abbrev bytes : List (Bor (List ℕ)) → List (List ℕ)
bytes = map (λ (piece : Bor (List ℕ)). piece.now)

pub returns-in-Ok : goal.returns-in-Ok
returns-in-Ok c =
    let same = ap bytes c.deref.ensures.value ∙ c.in-Ok.ensures in
    inr (
      c.in-Some.last,
      c.in-Some.ensures,
      inl (subst (λ (E : List (List ℕ)). JudgesReceipts sha256 c.receipts_code.result c.in-Some.last c.args.first_index c.args.subtrees.now E) same
          c.receipts_code.ensures),
    )
