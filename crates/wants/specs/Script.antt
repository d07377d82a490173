-- Specification, 8.1 The reasons: the reasons of a script do not depend on its windows and its day. With any two lists and days that
-- are accepted the same is printed, part by part; without windows the list is empty and the day is 1.
-- Assumes nothing.
use Rattle.std.specs.Prelude.{◌≡◌, true, List, ℕ}
use Rattle.text.specs.Read.{split}
use Rattle.windows.specs.declared.Window.{Window}
use Rattle.script.specs.load.Opening.{got, Opening, opening}
use Rattle.desk.specs.listings.Output.{day_fits}
use Rattle.desk.specs.listings.Why.{why_of}

-- the statement, of every script that opens with settings and table o and event lines ls, and of all days D and E with lists ws and vs
-- that are accepted: proved in proofs/Script.antt
pub record SameReasons : Type 0 where
  pub reasons : (D E : ℕ) (ws vs : List Window) (script area : List ℕ) (o : Opening) (ls : List (List ℕ))
      → opening (split 10 script) ≡ got o ls → day_fits D ws o ≡ true → day_fits E vs o ≡ true
      → (j : ℕ) → why_of j D ws script area ≡ why_of j E vs script area
