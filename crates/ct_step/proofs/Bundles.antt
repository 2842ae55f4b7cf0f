-- Staged batches are read as they were written.
use Rattle.std.proofs.Common.{◌≡◌, ◌∙◌, ◌<◌, ◌≤◌, ◌^◌, ℕ, List, [], ◌∷◌, ◌++◌, length, map, sym, refl, ap, subst, arith, length-append, append_assoc, inl, inr, Ok, Err}
use Rattle.std.proofs.lemmas.List.{append-nil}
use Rattle.std.proofs.lemmas.List.Concat.{flat_map-append}
use Rattle.ct_step.specs.Resumed.{object_parts, BundlesAreResumed, BundlesTell}
use Rattle.ct_step.specs.declared.rolling_out.ResumeFault.TheVariants.{Bundle, Memory}
use Rattle.std.proofs.lemmas.List.Elements.{All-head, All-tail, All-push}
use Rattle.std.specs.Prelude.{All}
use Rattle.ct_codec.specs.Bytes.{num, vec}
use Rattle.ct_codec.proofs.Apart.{num_split, vec_split}
use Rattle.ct_codec.proofs.Refusals.{length-num}
use Rattle.ct_step.specs.Bundle.{IsObject, bundled_text, bundle_text, IsBundleOf}

-- the bytes do not begin with a vector if they end within its length
pub no_length : (w : ℕ) (b x r : List ℕ) → length b < w → b ≡ vec w x ++ r → ⊥
no_length w b x r h e =
    absurd (omega (arith, h, ap length e, length-append (num w (length x) ++ x) r, length-append (num w (length x)) x, length-num w (length x)))

-- the bytes do not begin with a vector if its length is complete and they end within its content
pub no_content : (w n : ℕ) (b s x r : List ℕ) → n < 256 ^ w → length x < 256 ^ w → length s < n → b ≡ num w n ++ s → b ≡ vec w x ++ r → ⊥
no_content w n b s x r h k short e f =
    let parts = num_split w n (length x) s (x ++ r) h k (sym e ∙ f ∙ append_assoc (num w (length x)) x r) in
    absurd (omega (arith, short, parts.0, ap length parts.1, length-append x r))

pub object_split : (o p : List ℕ × List ℕ) (r s : List ℕ) → IsObject o → IsObject p → bundled_text o ++ r ≡ bundled_text p ++ s → (o ≡ p) × (r ≡ s)
object_split (n, c) (m, d) r s h k e =
    let whole : vec 2 n ++ (vec 4 c ++ r) ≡ vec 2 m ++ (vec 4 d ++ s) =
    sym (append_assoc (vec 2 n) (vec 4 c) r) ∙ e ∙ append_assoc (vec 2 m) (vec 4 d) s in
    let front = vec_split 2 n m (vec 4 c ++ r) (vec 4 d ++ s) h.name k.name whole in
    let behind = vec_split 4 c d r s h.content k.content front.1 in
    (ap (λ (x : List ℕ). (x, c)) front.0 ∙ ap (λ (x : List ℕ). (m, x)) behind.0, behind.1)

-- an object has at least 6 bytes
pub object_some : (o : List ℕ × List ℕ) (r : List ℕ) → 6 ≤ length (bundled_text o ++ r)
object_some (n, c) r =
    omega (
      arith,
      length-append (vec 2 n ++ vec 4 c) r,
      length-append (vec 2 n) (vec 4 c),
      length-append (num 2 (length n)) n,
      length-append (num 4 (length c)) c,
      length-num 2 (length n),
      length-num 4 (length c),
    )

-- objects that were read, and the rest of the bytes: a staged batch of all objects begins with those that were read
pub begun : (done all : List (List ℕ × List ℕ)) (rest : List ℕ) → All IsObject done → All IsObject all → bundle_text done ++ rest ≡ bundle_text all
    → (more : List (List ℕ × List ℕ)) × (all ≡ done ++ more) × (rest ≡ bundle_text more)
begun [] all rest h k e = (all, refl, e)
begun (o ∷ done) [] rest h k e =
    absurd (omega (arith, ap length e, ap length (append_assoc (bundled_text o) (bundle_text done) rest), object_some o (bundle_text done ++ rest)))
begun (o ∷ done) (p ∷ all) rest h k e =
    let whole : bundled_text o ++ (bundle_text done ++ rest) ≡ bundled_text p ++ bundle_text all = sym (append_assoc (bundled_text o) (bundle_text done) rest) ∙ e in
    let one = object_split o p (bundle_text done ++ rest) (bundle_text all) (All-head IsObject o done h) (All-head IsObject p all k) whole in
    let behind = begun done all rest (All-tail IsObject o done h) (All-tail IsObject p all k) one.1 in
    (behind.0, ap (λ (x : List (List ℕ × List ℕ)). p ∷ x) behind.1 ∙ ap (λ (x : List ℕ × List ℕ). x ∷ (done ++ behind.0)) (sym one.0), behind.2)

-- the objects that were read from bytes, and the rest of the bytes
pub record ReadSoFar (done : List (List ℕ × List ℕ)) (bytes rest : List ℕ) : Type 0 where
  pub fit : All IsObject done
  pub text : bytes ≡ bundle_text done ++ rest

pub bundle-push : (done : List (List ℕ × List ℕ)) (o : List ℕ × List ℕ) → bundle_text (done ++ o ∷ []) ≡ bundle_text done ++ bundled_text o
bundle-push [] o = append-nil (bundled_text o)
bundle-push (p ∷ done) o =
    ap (λ (x : List ℕ). bundled_text p ++ x) (bundle-push done o) ∙ sym (append_assoc (bundled_text p) (bundle_text done) (bundled_text o))

pub bundle-append : (a b : List (List ℕ × List ℕ)) → bundle_text (a ++ b) ≡ bundle_text a ++ bundle_text b
bundle-append a b = flat_map-append bundled_text a b

pub read-more : (done all : List (List ℕ × List ℕ)) (o : List ℕ × List ℕ) (bytes rest more : List ℕ) → ReadSoFar done bytes rest → IsObject o
    → rest ≡ bundled_text o ++ more → all ≡ done ++ o ∷ [] → ReadSoFar all bytes more
read-more done all o bytes rest more r h e a =
    subst (λ (d : List (List ℕ × List ℕ)). ReadSoFar d bytes more) (sym a) (record {
      fit = All-push IsObject done o r.fit h;
      text = r.text ∙ ap (λ (x : List ℕ). bundle_text done ++ x) e ∙ sym (append_assoc (bundle_text done) (bundled_text o) more)
          ∙ ap (λ (x : List ℕ). x ++ more) (sym (bundle-push done o));
    })

-- if the rest of the bytes does not begin with an object, they are not a staged batch
pub read-stuck : (done objects : List (List ℕ × List ℕ)) (bytes rest : List ℕ) → ReadSoFar done bytes rest → (length rest ≡ 0 → ⊥)
    → ((o : List ℕ × List ℕ) (r : List ℕ) → IsObject o → rest ≡ bundled_text o ++ r → ⊥) → IsBundleOf objects bytes → ⊥
read-stuck done objects bytes rest r some none b =
    let more = begun done objects rest r.fit b.fit (sym r.text ∙ b.text) in
    stuck more.0 more.2 (fit_behind done more.0 (subst (All IsObject) more.1 b.fit))
  where
    fit_behind : (done more : List (List ℕ × List ℕ)) → All IsObject (done ++ more) → All IsObject more
    fit_behind [] more h = h
    fit_behind (o ∷ done) more h = fit_behind done more (All-tail IsObject o (done ++ more) h)

    stuck : (more : List (List ℕ × List ℕ)) → rest ≡ bundle_text more → All IsObject more → ⊥
    stuck [] e h = some (ap length e)
    stuck (o ∷ more) e h = none o (bundle_text more) (All-head IsObject o more h) e

-- one text has one list of objects
pub same_objects : (a b : List (List ℕ × List ℕ)) (bytes : List ℕ) → IsBundleOf a bytes → IsBundleOf b bytes → a ≡ b
same_objects a b bytes p q =
    let more = begun b a [] q.fit p.fit (append-nil (bundle_text b) ∙ sym q.text ∙ p.text) in
    more.1 ∙ ap (λ (x : List (List ℕ × List ℕ)). b ++ x) (none more.0 more.2) ∙ append-nil b
  where
    none : (more : List (List ℕ × List ℕ)) → [] ≡ bundle_text more → more ≡ []
    none [] e = refl
    none (o ∷ more) e = absurd (omega (arith, ap length e, object_some o (bundle_text more)))

pub bundles_are_resumed : BundlesAreResumed
bundles_are_resumed H line objects bytes (Ok found) b d a = same_objects (map object_parts found.items) objects bytes a.1 b
bundles_are_resumed H line objects bytes (Err Bundle) b d (inl other) = absurd (other (sym d))
bundles_are_resumed H line objects bytes (Err Bundle) b d (inr none) = absurd (none objects b)
bundles_are_resumed H line objects bytes (Err Memory) b d a = refl

pub bundles_tell : BundlesTell
bundles_tell H line a b p q other = (other, p ∙ sym q)

pub read-less : (o : List ℕ × List ℕ) (rest more : List ℕ) → rest ≡ bundled_text o ++ more → length more < length rest
read-less (n, c) rest more e =
    omega (
      arith,
      ap length e,
      length-append (vec 2 n ++ vec 4 c) more,
      length-append (vec 2 n) (vec 4 c),
      length-append (num 2 (length n)) n,
      length-append (num 4 (length c)) c,
      length-num 2 (length n),
      length-num 4 (length c),
    )

-- the name of an object is followed by its content
pub behind_name : (n b s : List ℕ) (o : List ℕ × List ℕ) (r : List ℕ) → length n < 2 ^ 16 → b ≡ vec 2 n ++ s → IsObject o → b ≡ bundled_text o ++ r
    → s ≡ vec 4 o.1 ++ r
behind_name n b s (m, d) r h e k f =
    (vec_split 2 n m s (vec 4 d ++ r) h k.name (sym e ∙ f ∙ append_assoc (vec 2 m) (vec 4 d) r)).1
