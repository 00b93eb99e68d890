-- What a call leaves of the bytes that it appends to.
use Rattle.std.specs.Prelude.{◌≡◌, ◌++◌, ℕ, List, OnOk, Result}
use Rattle.std.specs.Global.{Vec}

-- a call that ended well appended the text to the bytes; of another one nothing is said
abbrev pub PushAppends : {R E : Type 0} → Vec ℕ → Vec ℕ → Result R E → List ℕ → Type 0
PushAppends before now result text = OnOk result (now.items ≡ before.items ++ text)
