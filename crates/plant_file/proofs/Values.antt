-- Values of a document, as the code sees them.
use Rattle.std.proofs.Common.{◌≡◌, List, [], ◌∷◌, Some, refl, ap}
use Rattle.toml.specs.Data.{Data, string, integer, float, boolean, datetime, array, table, Items}
use Rattle.toml.specs.Data.{as_array}
use Rattle.toml.specs.View.{items_of}
use Rattle.plant_file.specs.Documents.{elements, list_in}

pub elements-items_of : (ds : List Data) → elements (items_of ds) ≡ ds
elements-items_of [] = refl
elements-items_of (d ∷ ds) = ap (λ es. d ∷ es) (elements-items_of ds)

pub list_in-as_array : (d : Data) (ds : Items) → as_array d ≡ Some ds → list_in d ≡ elements ds
list_in-as_array (string s) ds found = cc
list_in-as_array (integer z) ds found = cc
list_in-as_array (float x) ds found = cc
list_in-as_array (boolean b) ds found = cc
list_in-as_array (datetime t) ds found = cc
list_in-as_array (array es) ds found = cc
list_in-as_array (table ms) ds found = cc
