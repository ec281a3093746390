-- A row's constant as the code has it.
use Rattle.std.specs.Prelude.{Bool, true, false, List, [], ◌∷◌, ℕ, ◌-◌, get_or}
use Rattle.sums.specs.Index.{Index}
use Rattle.model.specs.Data.{Data}
use Rattle.model.specs.Families.{equation}
use Rattle.constants.specs.declared.Constant.{Constant}

-- what a row's constant adds and takes off; opened down to the family's equation, so that a proof names one definition
unfoldable pub constant_of : Data → Index → Constant
unfolding equation
constant_of D r = record { adds = (equation D r).plus; takes = (equation D r).minus }

-- a row's constant where it has none
abbrev pub no_constant : Constant
no_constant = record { adds = 0; takes = 0 }

-- a row's constant that only adds, and one that only takes off
abbrev pub adding : ℕ → Constant
adding n = record { adds = n; takes = 0 }

abbrev pub taking : ℕ → Constant
taking n = record { adds = 0; takes = n }

-- whether rows of a family, counted from 0, have a constant
abbrev pub constant_families : List Bool
constant_families =
    true ∷ true ∷ true ∷ true  -- 1 to 4
    ∷ false ∷ false ∷ false ∷ false ∷ false ∷ false ∷ false  -- 5 to 11
    ∷ true ∷ false ∷ false  -- 12 to 14
    ∷ true ∷ true ∷ true ∷ true ∷ true ∷ true  -- 15 to 20
    ∷ false ∷ false ∷ false ∷ false ∷ true  -- 21 to 25
    ∷ false ∷ true ∷ false  -- 26 to 28
    ∷ []

unfoldable pub has_constant : ℕ → Bool
has_constant k = get_or constant_families k false

-- like terms brought together: of the two parts one is 0
unfoldable pub netted_of : Constant → Constant
netted_of k = record { adds = k.adds - k.takes; takes = k.takes - k.adds }
