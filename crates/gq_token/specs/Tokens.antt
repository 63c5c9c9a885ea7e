-- The tokens of a line, and when two terminals are the same.
use Rattle.std.specs.Prelude.{ℕ, ◌==◌, Bool}
use Rattle.gq_token.specs.declared.token.Terminal.{Terminal}
use Rattle.gq_token.specs.declared.token.Terminal.TheVariants as terminal

-- a number for each terminal, no two the same
abbrev pub place_of : Terminal → ℕ
place_of terminal.Create = 0
place_of terminal.Drop = 1
place_of terminal.Load = 2
place_of terminal.Upsert = 3
place_of terminal.Delete = 4
place_of terminal.Show = 5
place_of terminal.Group = 6
place_of terminal.Distinct = 7
place_of terminal.By = 8
place_of terminal.On = 9
place_of terminal.Where = 10
place_of terminal.Not = 11
place_of terminal.Exists = 12
place_of terminal.Having = 13
place_of terminal.And = 14
place_of terminal.Is = 15
place_of terminal.Null = 16
place_of terminal.Key = 17
place_of terminal.Int = 18
place_of terminal.Text = 19
place_of terminal.Count = 20
place_of terminal.Sum = 21
place_of terminal.Min = 22
place_of terminal.Max = 23
place_of terminal.NoCase = 24
place_of terminal.Rollup = 25
place_of terminal.Open = 26
place_of terminal.Close = 27
place_of terminal.Comma = 28
place_of terminal.Star = 29
place_of terminal.Equal = 30
place_of terminal.NotEqual = 31
place_of terminal.Less = 32
place_of terminal.LessEqual = 33
place_of terminal.Greater = 34
place_of terminal.GreaterEqual = 35

abbrev pub same : Terminal → Terminal → Bool
same a b = place_of a == place_of b
