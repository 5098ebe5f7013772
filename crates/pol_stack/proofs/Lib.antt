pub mod RunningSums
