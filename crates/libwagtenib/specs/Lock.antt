-- The codes and the bytes that the calls over a lock's text and the name of a staged batch return and write.
use Rattle.std.specs.Prelude.{◌≡◌, ◌⊎◌, ℕ, List, Some, None}
use Rattle.ct_node.specs.LockText.{text_said, next_text, name_state}
use Rattle.ct_node.specs.declared.lock_reading.Said.{Said}
use Rattle.ct_node.specs.declared.state.State.{State}
use Rattle.libwagtenib.specs.declared.node.NodeState.{NodeState}
use Rattle.libwagtenib.specs.Node.{c_of_state}
use Rattle.libwagtenib.specs.Output.{WritesOutput}

-- 0: the lock's text is written. 9: the memory has no room for it. 8: an allocation was refused, and nothing has changed.
abbrev pub WritesLockText : ℕ → List ℕ → List ℕ → ℕ → ℕ → List ℕ → List ℕ → ℕ → ℕ → Type 0
WritesLockText code line node before salt memory next count_before count =
    WritesOutput (next_text line node before salt) code memory next count ⊎ ((code ≡ 8) × (next ≡ memory) × (count ≡ count_before))

-- 0: the state and the size in the text are written. 114: the bytes are no lock's text, and nothing has changed.
abbrev pub ReadsLockText : ℕ → List ℕ → NodeState → NodeState → ℕ → ℕ → Type 0
ReadsLockText code text before next size_before size =
    ((code ≡ 0) × ((said : Said) × (text_said text ≡ Some said) × (next ≡ c_of_state said.state) × (size ≡ said.size)))
    ⊎ ((code ≡ 114) × (text_said text ≡ None) × (next ≡ before) × (size ≡ size_before))

-- 0: the state whose staged batch has this name is written. 115: no batch has it, and nothing has changed.
abbrev pub ReadsBatchName : ℕ → List ℕ → NodeState → NodeState → Type 0
ReadsBatchName code name before next =
    ((code ≡ 0) × ((s : State) × (name_state name ≡ Some s) × (next ≡ c_of_state s)))
    ⊎ ((code ≡ 115) × (name_state name ≡ None) × (next ≡ before))
