-- The names of documents 01 and 02, each list in its order.
use Rattle.std.specs.Prelude.{List, [], ◌∷◌, ℕ, map}
use Prim.Native.String.{String}
use Rattle.texts.specs.Claims.{bytes}

-- the bytes of each name
abbrev pub listed : List String → List (List ℕ)
listed names = map bytes names

-- the seven counts
abbrev pub count_names : List (List ℕ)
count_names = listed ("zones" ∷ "plants" ∷ "fuels" ∷ "seasons" ∷ "days" ∷ "hours" ∷ "years" ∷ [])

-- the tables of the data
abbrev pub table_names : List (List ℕ)
table_names = listed ("R" ∷ "V" ∷ "Dur" ∷ "minimum-load day" ∷ "zone" ∷ "fuel" ∷ "kind" ∷ "VRE" ∷ "GenCap" ∷ "year" ∷ "MaxNewCap" ∷ "OverLoad" ∷ "ResOffer" ∷ "RampDn" ∷ "RampUp" ∷ "MinCapFac" ∷ "CapCredit" ∷ "HeatRate" ∷ "E" ∷ "ResCost" ∷ "Availability" ∷ "Profile" ∷ "Annuity" ∷ "FixedOM" ∷ "GenCost" ∷ "Demand" ∷ "EE" ∷ "SRes" ∷ "PRM" ∷ "TL" ∷ "Loss" ∷ "zone cap" ∷ "system cap" ∷ "Tax" ∷ "MaxFuel" ∷ "BuildLimit" ∷ "VOLL" ∷ "SurplusPenalty" ∷ "RESVoLL" ∷ "SRESVoLL" ∷ "Err" ∷ "MaxCapital" ∷ "battery" ∷ "efficiency" ∷ "energy capacity" ∷ "line limit" ∷ "MW per line" ∷ "line annuity" ∷ [])

-- the tables of the plan's columns
abbrev pub column_names : List (List ℕ)
column_names = listed ("cap" ∷ "build" ∷ "retire" ∷ "gen" ∷ "reserve" ∷ "trans" ∷ "unmet" ∷ "surplus" ∷ "spinshort" ∷ "firmshort" ∷ "charge" ∷ "level" ∷ "built" ∷ "total" ∷ [])

-- the families of rows
abbrev pub family_names : List (List ℕ)
family_names = listed ("demand balance" ∷ "transfer limit" ∷ "spinning reserve" ∷ "planning reserve" ∷ "output and reserve" ∷ "reserve offer" ∷ "ramp down" ∷ "ramp up" ∷ "minimum load" ∷ "availability" ∷ "VRE profile" ∷ "capacity balance" ∷ "capacity outside its years" ∷ "build and retirement by kind" ∷ "new capacity" ∷ "yearly build" ∷ "fuel" ∷ "capital" ∷ "zone emissions" ∷ "system emissions" ∷ "battery level" ∷ "charge limit" ∷ "charge rise" ∷ "charge fall" ∷ "level limit" ∷ "line balance" ∷ "new lines" ∷ "lines both ways" ∷ [])
