-- Certificates one after the other, step by step along the bytes.
use Rattle.std.proofs.Common.{◌≡◌, ◌<◌, ◌^◌, ℕ, List, [], ◌∷◌, ◌++◌, length, ◌⊎◌, inl, inr, refl, sym, ap, ◌∙◌, append_assoc, append-nil}
use Rattle.std.specs.List.{AllByRecursion}
use Rattle.std.proofs.lemmas.Grind.{flat_map-append}
use Rattle.ct_codec.specs.Bytes.{vec}
use Rattle.ct_codec.specs.Leaf.{IsCertificate, AreCertificates, ChainText, PreChainText, chain_bytes}
use Rattle.ct_codec.specs.Faults.{VectorFaulty, CertificatesFaulty, ChainFaulty, PreChainFaulty}
use Rattle.ct_codec.specs.declared.fault.DecodeFault.{DecodeFault}
use Rattle.ct_codec.specs.declared.fault.DecodeFault.TheVariants.{Truncated, BadVersion, BadLeafType, BadEntryType, EmptyVector, Trailing, Memory}

-- the bytes are these certificates and the rest
pub record Walked (cs : List (List ℕ)) (b r : List ℕ) : Type 0 where
  pub each : AllByRecursion IsCertificate cs
  pub text : b ≡ chain_bytes cs ++ r

pub one_after : (cs : List (List ℕ)) (c : List ℕ) → AllByRecursion IsCertificate cs → IsCertificate c → AllByRecursion IsCertificate (cs ++ c ∷ [])
one_after [] c all one = (one, tt)
one_after (d ∷ cs) c all one = (all.0, one_after cs c all.1 one)

pub one_more : (cs : List (List ℕ)) (c b r s : List ℕ) → Walked cs b r → IsCertificate c → r ≡ vec 3 c ++ s → Walked (cs ++ c ∷ []) b s
one_more cs c b r s w one e =
    let step : chain_bytes (cs ++ c ∷ []) ++ s ≡ chain_bytes cs ++ (vec 3 c ++ s) =
    ap (λ l. l ++ s) (flat_map-append (λ x. vec 3 x) cs (c ∷ []) ∙ ap (λ l. chain_bytes cs ++ l) (append-nil (vec 3 c)))
    ∙ append_assoc (chain_bytes cs) (vec 3 c) s in
    record {
      each = one_after cs c w.each one;
      text = w.text ∙ ap (λ l. chain_bytes cs ++ l) e ∙ sym step;
    }

-- within a chain only two faults are possible
pub within_chain : (f : DecodeFault) (b y r : List ℕ) → length y < 2 ^ 24 → b ≡ vec 3 y ++ r → CertificatesFaulty f y → ChainFaulty f b
within_chain Truncated b y r h e v = inr (y, r, h, e, v)
within_chain EmptyVector b y r h e v = (y, r, h, e, v)
within_chain BadVersion b y r h e v = absurd v.5
within_chain BadLeafType b y r h e v = absurd v.5
within_chain BadEntryType b y r h e v = absurd v.5
within_chain Trailing b y r h e v = absurd v.5
within_chain Memory b y r h e v = absurd v.5

pub chain_text_of : (cs : List (List ℕ)) (b y : List ℕ) → AllByRecursion IsCertificate cs → length y < 2 ^ 24 → b ≡ vec 3 y
    → y ≡ chain_bytes cs → ChainText cs b
chain_text_of cs b y all h e f = record {
  certificates = all;
  fits = rw (← f) h;
  text = e ∙ ap (λ l. vec 3 l) f;
}

pub chain_memory : (b y : List ℕ) → length y < 2 ^ 24 → b ≡ vec 3 y → AreCertificates y → ChainFaulty Memory b
chain_memory b y h e are = (are.0, chain_text_of are.0 b y are.1 h e are.2)

-- the possible fault when a chain that was walked over is copied
pub chain_copy : (f : DecodeFault) (b y : List ℕ) → length y < 2 ^ 24 → b ≡ vec 3 y → AreCertificates y → (f ≡ Memory)
    ⊎ CertificatesFaulty f y → ChainFaulty f b
chain_copy f b y h e are (inl same) = rw same (chain_memory b y h e are)
chain_copy f b y h e are (inr v) = within_chain f b y [] h (e ∙ sym (append-nil (vec 3 y))) v

-- a precertificate, followed by the chain's text
pub pre_chain_text_of : (c : List ℕ) (cs : List (List ℕ)) (b r y : List ℕ) → IsCertificate c → b ≡ vec 3 c ++ r → AllByRecursion IsCertificate cs
    → length y < 2 ^ 24 → r ≡ vec 3 y → y ≡ chain_bytes cs → PreChainText c cs b
pre_chain_text_of c cs b r y one front all h e f =
    let text = chain_text_of cs r y all h e f in
    record {
      precertificate = one;
      chain = record { certificates = all; fits = text.fits; text = refl };
      text = front ∙ ap (λ l. vec 3 c ++ l) text.text;
    }

-- a fault of the chain is a fault of the whole
pub behind : (f : DecodeFault) (b c r : List ℕ) → IsCertificate c → b ≡ vec 3 c ++ r → ChainFaulty f r → PreChainFaulty f b
behind f b c r one front v = inr (c, r, one, front, v)

pub before : (f : DecodeFault) (b : List ℕ) → VectorFaulty f b → PreChainFaulty f b
before f b v = inl v
