-- Written bytes can be read again.
use Rattle.std.proofs.Common.{◌≡◌, ℕ, List, [], Result, Ok, Err, Vec, refl, ◌∙◌, ◌<◌, ◌^◌, length, ◌⊎◌}
use Rattle.std.specs.Prelude.{IfOk, IfErr}
use Rattle.std.specs.Result.{IsErrAnd}
use Rattle.std.specs.List.{AllByRecursion}
use Rattle.ct_codec.specs.Bytes.{vec}
use Rattle.ct_codec.specs.Faults.{LeafFaulty, ChainFaulty, CertificatesFaulty, PreChainFaulty}
use Rattle.ct_codec.specs.declared.fault.DecodeFault.TheVariants.{Memory}
use Rattle.ct_codec.proofs.Chains.{chain_text_of, chain_copy}
use Rattle.ct_codec.specs.Leaf.{SignedEntry, LeafText, ChainText, PreChainText, IsCertificate, AreCertificates, chain_bytes}
use Rattle.ct_codec.specs.Decoded.{IsTextOf, IsLeaf, AnswersLeaf, AnswersChain, AnswersPreChain, GivesLeaf, GivesChain, GivesPreChain, certificates_in}
use Rattle.ct_codec.specs.Decoded.{entry_in}
use Rattle.ct_codec.specs.Laws.{WrittenLeavesAreRead, WrittenChainsAreRead}
use Rattle.ct_codec.specs.Submitted.{x509, precert, entry_of, first_of, others_of}
use Rattle.ct_codec.specs.declared.fault.DecodeFault.{DecodeFault}
use Rattle.ct_codec.specs.declared.reading.Leaf.{Leaf}
use Rattle.ct_codec.proofs.Apart.{leaves_stand_apart, chains_stand_apart, pre_chains_stand_apart}
use Rattle.ct_codec.proofs.Verdict.{leaf_texts_have_no_fault, chain_texts_have_no_fault, pre_chain_texts_have_no_fault}

pub same_leaf : {A : Type 0} (l : Leaf A) (t : ℕ) (e : SignedEntry) (x b : List ℕ) → IsTextOf l b → LeafText t e x b → IsLeaf t e x l
same_leaf l t e x b p q =
    let same = leaves_stand_apart l.timestamp t (entry_in l.entry) e l.extensions.items x b b [] [] p q refl in
    (same.0, same.1, same.2)

pub same_chain : {A : Type 0} (v : Vec (Vec ℕ A) A) (cs : List (List ℕ)) (b : List ℕ) → ChainText (certificates_in v) b → ChainText cs b
    → certificates_in v ≡ cs
same_chain v cs b p q = (chains_stand_apart (certificates_in v) cs b b [] [] p q refl).0

leaf_again : {A : Type 0} (t : ℕ) (e : SignedEntry) (x b : List ℕ) (r : Result (Leaf A) DecodeFault) → LeafText t e x b → AnswersLeaf b r → GivesLeaf t e x r
leaf_again t e x b (Ok l) q a = (same_leaf l t e x b a.0 q, tt)
leaf_again t e x b (Err f) q a = (tt, leaf_texts_have_no_fault t e x b f q a.1)

chain_again : {A : Type 0} (cs : List (List ℕ)) (b : List ℕ) (r : Result (Vec (Vec ℕ A) A) DecodeFault) → ChainText cs b → AnswersChain b r → GivesChain cs r
chain_again cs b (Ok v) q a = (same_chain v cs b a.0 q, tt)
chain_again cs b (Err f) q a = (tt, chain_texts_have_no_fault cs b f q a.1)

-- the same at the exit of a `?`
pub leaf_left : {A : Type 0} (r : Result (Leaf A) DecodeFault) (f : DecodeFault) (t : ℕ) (e : SignedEntry) (x b : List ℕ) → LeafText t e x b
    → IsErrAnd r (λ g. g ≡ f) → LeafFaulty f b → GivesLeaf t e x r
leaf_left (Ok l) f t e x b q met v = absurd met
leaf_left (Err g) f t e x b q met v = (tt, met ∙ leaf_texts_have_no_fault t e x b f q v)

pub chain_left : {A : Type 0} (r : Result (Vec (Vec ℕ A) A) DecodeFault) (f : DecodeFault) (cs : List (List ℕ)) (b : List ℕ) → ChainText cs b
    → IsErrAnd r (λ g. g ≡ f) → ChainFaulty f b → GivesChain cs r
chain_left (Ok l) f cs b q met v = absurd met
chain_left (Err g) f cs b q met v = (tt, met ∙ chain_texts_have_no_fault cs b f q v)

-- the result of a function that copies a chain after it walked over it
pub chain_copied : {A : Type 0} (cs : List (List ℕ)) (b y : List ℕ) (r : Result (Vec (Vec ℕ A) A) DecodeFault) → length y < 2 ^ 24 → b ≡ vec 3 y
    → AreCertificates y → ChainText cs b
    → IfOk r (λ v. AllByRecursion IsCertificate (certificates_in v) × (y ≡ chain_bytes (certificates_in v)))
    → IfErr r (λ f. (f ≡ Memory) ⊎ CertificatesFaulty f y) → GivesChain cs r
chain_copied {A} cs b y (Ok v) h e are q ok bad = chain_again {A = A} cs b (Ok v) q (chain_text_of (certificates_in v) b y ok.0 h e ok.1, tt)
chain_copied {A} cs b y (Err f) h e are q ok bad = chain_again {A = A} cs b (Err f) q (tt, chain_copy f b y h e are bad)

same_pre_chain : {A : Type 0} (v : Vec ℕ A × Vec (Vec ℕ A) A) (c : List ℕ) (cs : List (List ℕ)) (b : List ℕ)
    → PreChainText v.0.items (certificates_in v.1) b → PreChainText c cs b → (v.0.items ≡ c) × (certificates_in v.1 ≡ cs)
same_pre_chain v c cs b p q =
    let same = pre_chains_stand_apart v.0.items c (certificates_in v.1) cs b b [] [] p q refl in
    (same.0, same.1)

-- if a result is a reading of a text or a fault of it, it is the value that the text encodes
pub pre_chain_again : {A : Type 0} (c : List ℕ) (cs : List (List ℕ)) (b : List ℕ) (r : Result (Vec ℕ A × Vec (Vec ℕ A) A) DecodeFault)
    → PreChainText c cs b → AnswersPreChain b r → GivesPreChain c cs r
pre_chain_again c cs b (Ok v) q a = (same_pre_chain v c cs b a.0 q, tt)
pre_chain_again c cs b (Err f) q a = (tt, pre_chain_texts_have_no_fault c cs b f q a.1)

pub pre_chain_left : {A : Type 0} (r : Result (Vec ℕ A × Vec (Vec ℕ A) A) DecodeFault) (f : DecodeFault) (c : List ℕ) (cs : List (List ℕ)) (b : List ℕ)
    → PreChainText c cs b → IsErrAnd r (λ g. g ≡ f) → PreChainFaulty f b → GivesPreChain c cs r
pre_chain_left (Ok v) f c cs b q met holds = absurd met
pre_chain_left (Err g) f c cs b q met holds = (tt, met ∙ pre_chain_texts_have_no_fault c cs b f q holds)

pub written_leaves_are_read : WrittenLeavesAreRead
written_leaves_are_read s t b r q a = leaf_again t (entry_of s) [] b r q a

pub written_chains_are_read : WrittenChainsAreRead
written_chains_are_read (x509 cs) b q = λ r a. chain_again (others_of cs) b r q a
written_chains_are_read (precert k t cs) b q = λ r a. pre_chain_again (first_of cs) (others_of cs) b r q a
