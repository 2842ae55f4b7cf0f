-- Values read from bytes: leaves and chains.
use Rattle.std.specs.Prelude.{◌≡◌, ℕ, List, map, Vec, Result, IfOk, IfErr, IsOkUnless}
use Rattle.ct_codec.specs.Leaf.{SignedEntry, certificate, precertificate, LeafText, ChainText, PreChainText}
use Rattle.ct_codec.specs.Faults.{LeafFaulty, ChainFaulty, PreChainFaulty}
use Rattle.ct_codec.specs.declared.fault.DecodeFault.{DecodeFault}
use Rattle.ct_codec.specs.declared.fault.DecodeFault.TheVariants.{Memory}
use Rattle.ct_codec.specs.declared.reading.Leaf.{Leaf}
use Rattle.ct_codec.specs.declared.reading.LeafEntry.{LeafEntry}
use Rattle.ct_codec.specs.declared.reading.LeafEntry.TheVariants as owned
use Rattle.ct_codec.specs.declared.reading.LentEntry.{LentEntry}
use Rattle.ct_codec.specs.declared.reading.LentEntry.TheVariants as lent

-- the entry of a leaf that was read
abbrev pub entry_in : {A : Type 0} → LeafEntry A → SignedEntry
entry_in (owned.X509 c) = certificate c.items
entry_in (owned.Precert k c) = precertificate k c.items

-- the entry of a leaf that is a view of the input
abbrev pub entry_lent : LentEntry → SignedEntry
entry_lent (lent.X509 c) = certificate c.now
entry_lent (lent.Precert k c) = precertificate k c.now

-- the certificates of a chain that was read
abbrev pub certificates_in : {A : Type 0} → Vec (Vec ℕ A) A → List (List ℕ)
certificates_in cs = map (λ c. c.items) cs.items

-- b is the text of the leaf l that was read (RFC 6962, section 3.4)
abbrev pub IsTextOf : {A : Type 0} → Leaf A → List ℕ → Type 0
IsTextOf l b = LeafText l.timestamp (entry_in l.entry) l.extensions.items b

-- the leaf has timestamp t, entry e and extensions x
abbrev pub IsLeaf : {A : Type 0} → ℕ → SignedEntry → List ℕ → Leaf A → Type 0
IsLeaf t e x l = (l.timestamp ≡ t) × (entry_in l.entry ≡ e) × (l.extensions.items ≡ x)

-- the result, in any allocator, is the leaf with timestamp t, entry e and extensions x, unless memory was refused
abbrev pub GivesLeaf : {A : Type 0} → ℕ → SignedEntry → List ℕ → Result (Leaf A) DecodeFault → Type 0
GivesLeaf t e x r = IfOk r (IsLeaf t e x) × IsOkUnless r Memory

-- the result, in any allocator, is the chain of these certificates, unless memory was refused
abbrev pub GivesChain : {A : Type 0} → List (List ℕ) → Result (Vec (Vec ℕ A) A) DecodeFault → Type 0
GivesChain cs r = IfOk r (λ v. certificates_in v ≡ cs) × IsOkUnless r Memory

-- the result is a leaf whose text is b, or a fault of b
abbrev pub AnswersLeaf : {A : Type 0} → List ℕ → Result (Leaf A) DecodeFault → Type 0
AnswersLeaf b r = IfOk r (λ l. IsTextOf l b) × IfErr r (λ f. LeafFaulty f b)

-- the result is a chain whose text is b, or a fault of b
abbrev pub AnswersChain : {A : Type 0} → List ℕ → Result (Vec (Vec ℕ A) A) DecodeFault → Type 0
AnswersChain b r = IfOk r (λ v. ChainText (certificates_in v) b) × IfErr r (λ f. ChainFaulty f b)

-- the result, in any allocator, is this precertificate and the chain of these certificates, unless memory was refused
abbrev pub GivesPreChain : {A : Type 0} → List ℕ → List (List ℕ) → Result (Vec ℕ A × Vec (Vec ℕ A) A) DecodeFault → Type 0
GivesPreChain c cs r = IfOk r (λ v. (v.0.items ≡ c) × (certificates_in v.1 ≡ cs)) × IsOkUnless r Memory

-- the result is a precertificate and a chain whose text is b, or a fault of b
abbrev pub AnswersPreChain : {A : Type 0} → List ℕ → Result (Vec ℕ A × Vec (Vec ℕ A) A) DecodeFault → Type 0
AnswersPreChain b r = IfOk r (λ v. PreChainText v.0.items (certificates_in v.1) b) × IfErr r (λ f. PreChainFaulty f b)
