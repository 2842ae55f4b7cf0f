-- The meaning of a match, by labels.
use Rattle.std.proofs.Common.{◌≡◌, ℕ, Bool, true, false, List, [], ◌∷◌, ◌++◌, Option, Some, None, Result, Ok, Err, refl, sym, ap, subst, ◌∙◌, ◌⊎◌, inl, inr}
use Rattle.std.specs.Prelude.{◌&&◌, IfOk}
use Rattle.std.specs.Bool.{Decides}
use Rattle.std.specs.Str.{str_eq_ignore_ascii_case}
use Rattle.std.proofs.lemmas.Bool.Decides.{eqb_tells}
use Rattle.ct_names.specs.declared.name.NameKind.{NameKind}
use Rattle.ct_names.specs.declared.name.NameKind.TheVariants.{Common, WideCommon, WidestCommon, Dns, Mail, Uri, Address}
use Rattle.ct_names.specs.declared.watched.FoundIn.{FoundIn}
use Rattle.ct_names.specs.Names.{Named}
use Rattle.ct_names.specs.Covers.{plain_of, narrow, wildcard_over}
use Rattle.ct_names.specs.Watched.{held, told_for, narrow_wide, kind_told, is_sought, some_told, found_in, HoldsFor, IsToldFor, host_told, HostToldFor, IsGivenText, KindToldFor, SomeToldFor, IsFound}
use Rattle.ct_names.specs.Hosts.{mail_host, uri_host, address_text, is_text}
use Rattle.ct_names.proofs.Covering.{same_tells, wildcard_tells, no_truth, either_tells, covering_is_by_labels}

holding_tells : (name w : List ℕ) → Decides (held name w) (HoldsFor name w)
unfolding held
holding_tells name w =
    either_tells (str_eq_ignore_ascii_case (plain_of name) w) (wildcard_over (plain_of name) w) (same_tells (plain_of name) w) (wildcard_tells (plain_of name) w)

pub telling_is_by_labels : (name w : List ℕ) → Decides (told_for name w) (IsToldFor name w)
unfolding told_for
telling_is_by_labels name [] = holding_tells name []
telling_is_by_labels name (x ∷ w) =
    elim (eqb_tells x 46) [
      | inl p ↦ rw p.0 (
        λ t. inl (p.1, (covering_is_by_labels name w).0 t),
        λ e. elim e [ inl h ↦ (covering_is_by_labels name w).1 h.1 | inr h ↦ absurd (h.0 p.1) ],
      )
      | inr p ↦ rw p.0 (
        λ t. inr (p.1, (holding_tells name (x ∷ w)).0 t),
        λ e. elim e [ inl h ↦ absurd (p.1 h.0) | inr h ↦ (holding_tells name (x ∷ w)).1 h.1 ],
      )
    ]

host_tells : (host : Option (List ℕ)) (w : List ℕ) → Decides (host_told host w) (HostToldFor host w)
host_tells None w = (λ t. absurd (no_truth t), λ e. absurd e)
host_tells (Some h) w = telling_is_by_labels h w

text_tells : (text : Option (List ℕ)) (w : List ℕ) → Decides (is_text text w) (IsGivenText text w)
text_tells None w = (λ t. absurd (no_truth t), λ e. absurd e)
text_tells (Some t) w = same_tells t w

kind_tells : (kind : NameKind) (b w : List ℕ) → Decides (kind_told kind b w) (KindToldFor kind b w)
unfolding kind_told
kind_tells Common b w = telling_is_by_labels b w
kind_tells WideCommon b w = telling_is_by_labels (narrow b) w
kind_tells WidestCommon b w = telling_is_by_labels (narrow_wide b) w
kind_tells Dns b w = telling_is_by_labels b w
kind_tells Mail b w = host_tells (mail_host b) w
kind_tells Uri b w = host_tells (uri_host b) w
kind_tells Address b w = text_tells (address_text b) w

both_tell : {P : Type 0} (a b : Bool) → Decides b P → Decides (a && b) ((a ≡ true) × P)
both_tell true b d = (λ t. (refl, d.0 t), λ e. d.1 e.1)
both_tell false b d = (λ t. absurd (no_truth t), λ e. absurd (no_truth e.0))

-- the first of the names matches the watched one, or one of the others does
abbrev HeadOrOther : Bool → Named → List Named → List ℕ → Type 0
HeadOrOther alt n ns w = ((is_sought alt n.kind ≡ true) × KindToldFor n.kind n.bytes w) ⊎ SomeToldFor alt ns w

first_is : (a b : Named) (x y : List Named) → a ∷ x ≡ b ∷ y → a ≡ b
first_is a b x y e = cc

rest_is : (a b : Named) (x y : List Named) → a ∷ x ≡ b ∷ y → x ≡ y
rest_is a b x y e = cc

no_names : (front behind : List Named) (n : Named) → [] ≡ front ++ (n ∷ behind) → ⊥
no_names [] behind n e = cc
no_names (m ∷ front) behind n e = cc

gathered : (alt : Bool) (n : Named) (ns : List Named) (w : List ℕ) → HeadOrOther alt n ns w → SomeToldFor alt (n ∷ ns) w
gathered alt n ns w (inl h) = ([], ns, n, refl, h.0, h.1)
gathered alt n ns w (inr (front, behind, m, e, is, told)) = (n ∷ front, behind, m, ap (λ (l : List Named). n ∷ l) e, is, told)

parted : (alt : Bool) (n : Named) (ns front behind : List Named) (m : Named) (w : List ℕ) → n ∷ ns ≡ front ++ (m ∷ behind) → is_sought alt m.kind ≡ true
    → KindToldFor m.kind m.bytes w → HeadOrOther alt n ns w
parted alt n ns [] behind m w e is told =
    inl (subst (λ (k : Named). (is_sought alt k.kind ≡ true) × KindToldFor k.kind k.bytes w) (sym (first_is n m ns behind e)) (is, told))
parted alt n ns (k ∷ front) behind m w e is told = inr (front, behind, m, rest_is n k ns (front ++ (m ∷ behind)) e, is, told)

pub some_tells : (alt : Bool) (ns : List Named) (w : List ℕ) → Decides (some_told alt ns w) (SomeToldFor alt ns w)
unfolding some_told
some_tells alt [] w = (λ t. absurd (no_truth t), λ (front, behind, n, e, is, told). absurd (no_names front behind n e))
some_tells alt (n ∷ ns) w =
    let head = both_tell (is_sought alt n.kind) (kind_told n.kind n.bytes w) (kind_tells n.kind n.bytes w) in
    let both = either_tells (is_sought alt n.kind && kind_told n.kind n.bytes w) (some_told alt ns w) head (some_tells alt ns w) in (
      λ t. gathered alt n ns w (both.0 t),
      λ (front, behind, m, e, is, told). both.1 (parted alt n ns front behind m w e is told),
    )

not_told : {P : Type 0} (b : Bool) → b ≡ false → Decides b P → P → ⊥
not_told b e d p = no_truth (sym e ∙ d.1 p)

found_by : (a b : Bool) (ns : List Named) (w : List ℕ) → some_told true ns (plain_of w) ≡ a → some_told false ns (plain_of w) ≡ b
    → IsFound (found_in ns w) ns (plain_of w)
unfolding found_in
found_by true b ns w e f = rw e ((some_tells true ns (plain_of w)).0 e)
found_by false true ns w e f =
    rw (e, f) ((some_tells false ns (plain_of w)).0 f, not_told (some_told true ns (plain_of w)) e (some_tells true ns (plain_of w)))
found_by false false ns w e f =
    rw (e, f) (
      not_told (some_told false ns (plain_of w)) f (some_tells false ns (plain_of w)),
      not_told (some_told true ns (plain_of w)) e (some_tells true ns (plain_of w)),
    )

pub finding_is_exact : (ns : List Named) (w : List ℕ) → IsFound (found_in ns w) ns (plain_of w)
finding_is_exact ns w = found_by (some_told true ns (plain_of w)) (some_told false ns (plain_of w)) ns w refl refl

pub found_named : {E : Type 0} (ns : List Named) (w : List ℕ) (r : Result (Option FoundIn) E) → IfOk r (λ f. f ≡ found_in ns w)
    → IfOk r (λ f. IsFound f ns (plain_of w))
found_named ns w (Ok f) e = subst (λ (g : Option FoundIn). IsFound g ns (plain_of w)) (sym e) (finding_is_exact ns w)
found_named ns w (Err x) e = tt
