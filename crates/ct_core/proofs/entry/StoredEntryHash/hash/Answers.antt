use Rattle.std.proofs.Common.{◌≡◌, List, ℕ, refl, ap, ◌∙◌}
use Rattle.ct_codec.specs.Submitted.{Submitted, entry_of}
use Rattle.ct_codec.specs.Hashed.{hashed_of}
use Rattle.ct_codec.proofs.Hashes.{hashed_certificate, hashed_precertificate}
use Rattle.ct_core.proofs.entry.StoredEntryHash.hash.Goals.{in-Some, in_default}
use Rattle.ct_core.proofs.entry.StoredEntryHash.hash.Goals as goal

pub returns : goal.returns
returns g c =
    let write = g.H.Hasher.write in
    let e = entry_of c.submission-submission.result.now in
    let same : hashed_of e ≡ hashed_of (entry_of c.args.self.now.submission) = ap (λ (s : Submitted). hashed_of (entry_of s)) c.submission-submission.ensures in
    let last = c.write-2.ensures ∙ ap (λ (b : List ℕ). write c.match-issuer_key_hash.state b) c.signed.ensures.value in
    elim c.match-issuer_key_hash.branch [
      | in-Some w ↦
          let hashed = hashed_precertificate e w.in-Some.key_hash.now _ c.in_range.ensures.entry w.in-Some.ensures.some in
          last ∙ rw (w.state-is, w.write.ensures, ← same, hashed) refl
      | in_default w ↦
          let hashed = hashed_certificate e _ w.in_default.ensures.none in
          last ∙ rw (w.state-is, ← same, hashed) refl
    ]
