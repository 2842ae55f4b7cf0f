use Rattle.std.proofs.Common.{arith, sym, ◌∙◌, ◌≡◌}
use Rattle.std.proofs.lemmas.Bool.Decides.{nat_tests}
use Rattle.std.specs.Cmp.Lexicographic.{bytes_decides}
use Rattle.ct_codec.proofs.Identities.{same_signed, other_type, other_key}
use Rattle.ct_codec.proofs.writing.same_identity.Goals.{then-a_type-b_type, else-a_type-b_type}
use Rattle.ct_codec.proofs.writing.same_identity.Goals as goal

pub returns-then-eq : goal.returns-then-eq
returns-then-eq g c =
    let a = c.type_and_key_hash-a_type.ensures in
    let b = c.type_and_key_hash-b_type.ensures in
    elim c.if-a_type-b_type.branch [
      | then-a_type-b_type w ↦
          let types = sym a.number ∙ w.if-a_type-b_type.true ∙ b.number in
          let keys = sym a.key_hash ∙ (bytes_decides _ _).0 (sym w.eq.ensures ∙ sym w.value-is ∙ c.if-eq.true) ∙ b.key_hash in
          c.eq-then-eq.ensures
          ∙ rw (c.signed.ensures.value, c.signed-then-eq.ensures.value)
          (same_signed c.args.a.now c.args.b.now c.in_range.ensures.entry c.in_range-2.ensures.entry types keys)
      | else-a_type-b_type w ↦
          let same : c.type_and_key_hash-a_type.result.0 ≡ c.type_and_key_hash-b_type.result.0 = let value = w.value-is in let true_is =
          c.if-eq.true in grind (arith, nat_tests) in
          absurd (w.if-a_type-b_type.false same)
    ]

pub returns-else-eq : goal.returns-else-eq
returns-else-eq g c =
    let a = c.type_and_key_hash-a_type.ensures in
    let b = c.type_and_key_hash-b_type.ensures in
    elim c.if-a_type-b_type.branch [
      | then-a_type-b_type w ↦
          c.if-eq.false ∙ other_key c.args.a.now c.args.b.now c.in_range.ensures.entry c.in_range-2.ensures.entry
          (rw (← a.key_hash, ← b.key_hash) (sym c.if-eq.false ∙ w.value-is ∙ w.eq.ensures))
      | else-a_type-b_type w ↦
          c.if-eq.false ∙ other_type c.args.a.now c.args.b.now c.in_range.ensures.entry c.in_range-2.ensures.entry
          (λ e. w.if-a_type-b_type.false (a.number ∙ e ∙ sym b.number))
    ]
