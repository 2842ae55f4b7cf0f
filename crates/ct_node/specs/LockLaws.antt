-- Everything that is written for a state is read again, and no other name is read.
use Rattle.std.specs.Prelude.{◌≡◌, ◌<◌, ◌^◌, ℕ, List, ◌++◌, length, Some, codes}
use Rattle.ct_node.specs.declared.state.State.{State}
use Rattle.ct_node.specs.LockText.{text_said, said_of, next_text, number_digits, bundle_name, name_state}

-- the numbers of a state have 64 bits
abbrev pub IsSmall : State → Type 0
IsSmall s = (s.moment < 2 ^ 64) × (s.before < 2 ^ 64) × (s.salt < 2 ^ 64)

-- a state is read again from the name of its staged batch
abbrev pub NamesSayTheirState : Type 0
NamesSayTheirState = (s : State) → IsSmall s → name_state (bundle_name s) ≡ Some s

-- a name from which a state is read is the one that is written for this state
abbrev pub ReadNamesAreWritten : Type 0
ReadNamesAreWritten = (name : List ℕ) (s : State) → name_state name ≡ Some s → name ≡ bundle_name s

-- Take the next text of a state's line, which has this number of entries and this timestamp. The number of entries, the timestamp, the
-- salt, and the timestamp of the state before are read again from it. The last of these is read as 0 if it is not before the state's
-- timestamp.
abbrev pub TextsSayTheirState : Type 0
TextsSayTheirState =
    (n m b s : ℕ) (rest node : List ℕ) → n < 2 ^ 64 → m < 2 ^ 64 → b < 2 ^ 64 → s < 2 ^ 64 → length rest ≡ 256
    → text_said (next_text (codes "growth " ++ number_digits n ++ number_digits m ++ rest) node b s) ≡ Some (said_of n m b s)
