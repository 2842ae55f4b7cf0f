-- The meaning of a clap error for a run, by the request in the command line.
use Rattle.std.proofs.Common.{◌≡◌, ◌⊎◌, ◌∙◌, ℕ, List, [], refl, ap, sym, subst, inl, inr}
use Rattle.std.specs.Prelude.{Option}
use Rattle.std.specs.Io.KnownBytes.{Appends}
use Rattle.clap.specs.declared.error.kind.ErrorKind.{ErrorKind}
use Rattle.clap.specs.declared.error.kind.ErrorKind.TheVariants as kind
use Rattle.ct_lines.specs.declared.run_fault.Fault.{Fault}
use Rattle.ct_lines.specs.declared.run_fault.Fault.TheVariants.{Memory, Write}
use Rattle.ctlog.specs.CommandLine.{CommandLine, IsNotice, IsRefusalOf, IsUnanswered, by_kind, help, version, nothing}

not_both : {P : Type 0} (k : ErrorKind) → k ≡ kind.OutOfMemory → IsNotice k → P
not_both k memory (inl is) = absurd (other (sym memory ∙ is))
  where
    other : kind.OutOfMemory ≡ kind.DisplayHelp → ⊥
    other e = cc
not_both k memory (inr is) = absurd (other (sym memory ∙ is))
  where
    other : kind.OutOfMemory ≡ kind.DisplayVersion → ⊥
    other e = cc

module _ (Ends : CommandLine → Type 0) where
  -- help or the version was requested
  pub noticed : (k : ErrorKind) (a : CommandLine) → IsRefusalOf a k → IsNotice k → Ends help → Ends version → Ends a
  noticed k a (inl memory) is of_help of_version = not_both k memory is
  noticed k a (inr e) (inl h) of_help of_version = subst Ends (sym (e ∙ ap by_kind h)) of_help
  noticed k a (inr e) (inr v) of_help of_version = subst Ends (sym (e ∙ ap by_kind v)) of_version

  -- the requested text was broken off, or nothing was written
  pub unanswered : (k : ErrorKind) (a : CommandLine) (f : Fault) (old new : Option (List ℕ)) → IsRefusalOf a k → IsUnanswered k f old new
      → (((f ≡ Write) ⊎ (f ≡ Memory)) × ((text : List ℕ) × Appends old new text) → Ends help × Ends version)
      → ((f ≡ Memory) × Appends old new [] → (b : CommandLine) → Ends b) → Ends a
  unanswered k a f old new r (inl told) of_text of_none =
      let (is, fault, text) = told in
      noticed k a r is (of_text (fault, text)).0 (of_text (fault, text)).1
  unanswered k a f old new r (inr none) of_text of_none = of_none none a

-- an error that is neither a requested text nor out of memory
other_kind : (k : ErrorKind) → (IsNotice k → ⊥) → by_kind k ≡ nothing
other_kind kind.DisplayHelp not_notice = absurd (not_notice (inl refl))
other_kind kind.DisplayVersion not_notice = absurd (not_notice (inr refl))
other_kind kind.InvalidValue not_notice = refl
other_kind kind.UnknownArgument not_notice = refl
other_kind kind.InvalidSubcommand not_notice = refl
other_kind kind.NoEquals not_notice = refl
other_kind kind.ValueValidation not_notice = refl
other_kind kind.TooManyValues not_notice = refl
other_kind kind.TooFewValues not_notice = refl
other_kind kind.WrongNumberOfValues not_notice = refl
other_kind kind.ArgumentConflict not_notice = refl
other_kind kind.MissingRequiredArgument not_notice = refl
other_kind kind.MissingSubcommand not_notice = refl
other_kind kind.DisplayHelpOnMissingArgumentOrSubcommand not_notice = refl
other_kind kind.Io not_notice = refl
other_kind kind.Format not_notice = refl
other_kind kind.OutOfMemory not_notice = refl

-- the arguments request nothing that exists
pub refused_words : (k : ErrorKind) (a : CommandLine) → IsRefusalOf a k → (IsNotice k → ⊥) → (k ≡ kind.OutOfMemory → ⊥) → a ≡ nothing
refused_words k a (inl memory) not_notice not_memory = absurd (not_memory memory)
refused_words k a (inr e) not_notice not_memory = e ∙ other_kind k not_notice
