-- The bytes of a message.
use Rattle.std.proofs.Common.{◌≡◌, ◌≢◌, ◌∙◌, ◌<◌, ◌≤◌, ◌^◌, ℕ, List, [], ◌∷◌, ◌++◌, length, drop, take, decimal, codes, sym, ap, subst, refl, arith, length-append}
use Rattle.std.proofs.Math.Seq.{drop-append_seam}
use Rattle.std.proofs.lemmas.Fmt.{IsAscii-decimal, decimal_is_IsNumeral}
use Rattle.std.proofs.lemmas.List.Elements.{All-nil, All-cons}
use Rattle.std.proofs.lemmas.Str.{IsUtf8-append, IsUtf8-from_ascii}
use Rattle.std.proofs.lemmas.Str.Ascii.{IsAscii-nil, IsAscii-cons}
use Rattle.std.proofs.lemmas.Str.Parse.{digit_from_value}
use Rattle.std.specs.Str.{IsUtf8}
use Rattle.std.specs.Str.Parse.{AllDigits}
use Rattle.ct_checkpoint.proofs.Lines.{one_first}
use Rattle.ct_checkpoint.proofs.Messages.{messages_differ, checkpoints_differ}
use Rattle.ct_checkpoint.specs.Checkpoint.{IsWithinLine, IsCheckpoint}
use Rattle.ct_checkpoint.specs.Message.{cosignature_message}
use Rattle.ct_witness.specs.declared.tree.Tree.{Tree}
use Rattle.libwagtenib.specs.Witness.{Cosigned, IsMessageOf}

-- a message is longer than the part before its time
pub is_long : (n : ℕ) (t bytes : List ℕ) → bytes ≡ cosignature_message n t → 20 ≤ length bytes
unfolding cosignature_message
is_long n t bytes e = omega (arith, ap length e, length-append (codes "cosignature/v1\ntime ") (decimal n ++ (10 ∷ t)))

-- the part from the time on
pub behind : (n : ℕ) (t bytes : List ℕ) → bytes ≡ cosignature_message n t → drop 20 bytes ≡ decimal n ++ (10 ∷ t)
unfolding cosignature_message
behind n t bytes e = ap (drop 20) e ∙ drop-append_seam (codes "cosignature/v1\ntime ") (decimal n ++ (10 ∷ t))

-- it is UTF-8 if the text is
pub behind_is_utf8 : (n : ℕ) (t : List ℕ) → n < 2 ^ 64 → IsUtf8 t → IsUtf8 (decimal n ++ (10 ∷ t))
behind_is_utf8 n t h u =
    IsUtf8-append (decimal n) (10 ∷ t) (IsUtf8-from_ascii (decimal n) (IsAscii-decimal n h)) (IsUtf8-append (10 ∷ []) t (IsUtf8-from_ascii (10 ∷ []) (IsAscii-cons 10 [] (omega arith) IsAscii-nil)) u)

-- a number in decimal is one line
digits_within : (ds : List ℕ) → AllDigits 10 ds → IsWithinLine ds
digits_within [] h = All-nil (λ b. b ≢ 10)
digits_within (c ∷ cs) h =
    let k = digit_from_value c h.0 in
    All-cons (λ b. b ≢ 10) c cs (λ e. omega (arith, k.0, e)) (digits_within cs h.1)

number_and_text : (n : ℕ) (t number text whole : List ℕ) → n < 2 ^ 64 → whole ≡ decimal n ++ (10 ∷ t) → whole ≡ number ++ (10 ∷ text) → IsWithinLine number
    → (number ≡ decimal n) × (t ≡ text)
number_and_text n t number text whole h e f w =
    let z = one_first number (decimal n) text t w (digits_within (decimal n) (decimal_is_IsNumeral n h).0.1) (sym f ∙ e) in
    (z.0, sym z.1)

-- ---- bytes that are no message, and those that may be one
pub too_short : (bytes : List ℕ) → length bytes < 20 → (n : ℕ) (t : List ℕ) → n < 2 ^ 64 → IsUtf8 t → bytes ≡ cosignature_message n t → ⊥
too_short bytes s n t h u e = omega (arith, s, is_long n t bytes e)

pub no_text : (bytes rest : List ℕ) → rest ≡ drop 20 bytes → (IsUtf8 rest → ⊥) → (n : ℕ) (t : List ℕ) → n < 2 ^ 64 → IsUtf8 t
    → bytes ≡ cosignature_message n t → ⊥
no_text bytes rest r never n t h u e = never (subst IsUtf8 (sym (r ∙ behind n t bytes e)) (behind_is_utf8 n t h u))

pub no_line : (bytes rest line : List ℕ) → rest ≡ drop 20 bytes → line ≡ rest → ((a b : List ℕ) → line ≡ a ++ (10 ∷ b) → ⊥) → (n : ℕ) (t : List ℕ)
    → n < 2 ^ 64 → IsUtf8 t → bytes ≡ cosignature_message n t → ⊥
no_line bytes rest line r l never n t h u e = never (decimal n) t (l ∙ r ∙ behind n t bytes e)

pub no_number : (bytes rest line number text : List ℕ) → rest ≡ drop 20 bytes → line ≡ rest → line ≡ number ++ (10 ∷ text) → IsWithinLine number
    → ((n : ℕ) → n < 2 ^ 64 → number ≡ decimal n → ⊥) → (n : ℕ) (t : List ℕ) → n < 2 ^ 64 → IsUtf8 t → bytes ≡ cosignature_message n t → ⊥
no_number bytes rest line number text r l p w never n t h u e =
    never n h (number_and_text n t number text line h (l ∙ r ∙ behind n t bytes e) p w).0

pub both_parts : (bytes rest line number text : List ℕ) (time : ℕ) → rest ≡ drop 20 bytes → line ≡ rest → line ≡ number ++ (10 ∷ text) → IsWithinLine number
    → ((n : ℕ) → n < 2 ^ 64 → number ≡ decimal n → n ≡ time) → (n : ℕ) (t : List ℕ) → n < 2 ^ 64 → bytes ≡ cosignature_message n t → (n ≡ time) × (t ≡ text)
both_parts bytes rest line number text time r l p w is n t h e =
    let z = number_and_text n t number text line h (l ∙ r ∙ behind n t bytes e) p w in
    (is n h z.0, z.1)

-- one message is that of one cosignature
pub one_tree : (a b : Tree) → a.size ≡ b.size → a.root ≡ b.root → a ≡ b
one_tree a b size root =
    let first : a ≡ record { size = b.size; root = a.root } = ap (λ n. let t : Tree = record { size = n; root = a.root } in t) size in
    first ∙ ap (λ r. let t : Tree = record { size = b.size; root = r } in t) root

one_cosigned : (a b : Cosigned) → a.origin ≡ b.origin → a.tree ≡ b.tree → a.time ≡ b.time → a ≡ b
one_cosigned a b origin tree time =
    let first : a ≡ record { origin = b.origin; tree = a.tree; time = a.time } =
    ap (λ o. let c : Cosigned = record { origin = o; tree = a.tree; time = a.time } in c) origin in
    let second : record { origin = b.origin; tree = a.tree; time = a.time } ≡ record { origin = b.origin; tree = b.tree; time = a.time } =
    ap (λ t. let c : Cosigned = record { origin = b.origin; tree = t; time = a.time } in c) tree in
    first ∙ second ∙ ap (λ n. let c : Cosigned = record { origin = b.origin; tree = b.tree; time = n } in c) time

pub same_cosigned : (a b : Cosigned) (bytes : List ℕ) → IsMessageOf a bytes → IsMessageOf b bytes → a ≡ b
same_cosigned a b bytes (s, p, h, e) (t, q, i, f) =
    let parts = messages_differ a.time b.time s t h i (sym e ∙ f) in
    let same = checkpoints_differ a.origin b.origin a.tree.size b.tree.size a.tree.root b.tree.root s p.1
    (subst (λ x. IsCheckpoint b.origin b.tree.size b.tree.root x) (sym parts.1) q.1) in
    one_cosigned a b same.0 (one_tree a.tree b.tree same.1 same.2) parts.0
