-- How the code says where a statement stands. Assumes nothing: a definition.
use Rattle.std.specs.Prelude.{Bool, true, false}
use Rattle.language.specs.Places.{Standing, linked, unlinked}

abbrev pub standing : Bool → Standing
standing true = linked
standing false = unlinked
